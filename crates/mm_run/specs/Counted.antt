-- What has been counted of the lines of a text of sources so far.
use Rattle.std.specs.Prelude.{ℕ, ◌+◌, List, length, IfSome}
use Rattle.mm_run.specs.Types.{SourceLine}
use Rattle.mm_run.specs.Untaken.{Counts}
use Rattle.mm_run.specs.declared.untaken.Unstored.{Unstored}
use Rattle.mm_run.specs.declared.untaken.UnstoredCount.{UnstoredCount}

-- how many packets are counted
abbrev pub all_unstored : Unstored → ℕ
all_unstored n = n.late + n.telecommands + n.unrouted

-- a count whose problem and memory are known has the numbers of these lines
abbrev pub HasCounted : UnstoredCount → List SourceLine → Type 0
HasCounted count lines = IfSome count.start
    (λ start. Counts (length start.now.problem.windows) start.now.memory lines count.unstored)
