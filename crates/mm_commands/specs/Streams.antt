-- Which output goes into a file, and when a task reads standard input twice.
use Rattle.std.specs.Prelude.{◌≡◌, ◌+◌, ◌&&◌, ℕ, Bool, true, List, Option, Some, None, bytes_eq, nat_lt}
use Rattle.std.specs.Prelude.{if◌then◌else◌}
use Rattle.std.specs.Borrow.{Bor}
use Rattle.mm_files.specs.Streams.{stream_name, is_stream}
use Rattle.mm_command_line.specs.Lines.{Spells}
use Rattle.mm_command_line.specs.Names.{names_in}
use Rattle.mm_command_line.specs.declared.task.FileNames.{FileNames}
use Rattle.mm_command_line.specs.declared.task.Task.{Task}

-- the file that a text goes into, where an output is named that is not standard output
abbrev pub file_of : Bool → Option (Bor (List ℕ)) → Option (Bor (List ℕ))
file_of streams (Some name) = if is_stream streams name.now then None else Some name
file_of streams None = None

-- 1 where this is the name of standard input, and else 0
abbrev pub input_in : Option (Bor (List ℕ)) → ℕ
input_in (Some name) = if bytes_eq name.now stream_name then 1 else 0
input_in None = 0

-- how many of these names are that of standard input
abbrev pub inputs_in : FileNames → ℕ
inputs_in names = input_in names.setup + input_in names.forecast + input_in names.plan + input_in names.sources
    + input_in names.links
    + input_in names.other

-- the task has standard input for more than one of its files
abbrev pub reads_twice : Bool → Task → Bool
reads_twice streams task = streams && nat_lt 1 (inputs_in (names_in task))

-- the words spell a task that has standard input for more than one of its files
pub record ReadsTwice (streams : Bool) (words : List (List ℕ)) : Type 0 where
  pub task : Task
  pub asked : Spells words task
  pub twice : reads_twice streams task ≡ true
