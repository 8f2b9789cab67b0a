use Rattle.std.proofs.Common.{◌≡◌, map, drop, fold}
use Rattle.clap.specs.Words.{app_of}
use Rattle.mm_command_line.specs.Commands.{entry_of, with_command}
use Rattle.mm_command_line.proofs.command.with_commands.Given as goal

-- with the commands that are left the program is whole
abbrev pub invariant-loop-form : goal.invariant-loop-form
invariant-loop-form l =
    fold with_command (app_of l.tool) (map entry_of (drop l.form-index l.forms)) ≡ fold with_command (app_of l.fn.tool)
    (map entry_of l.fn.forms)
