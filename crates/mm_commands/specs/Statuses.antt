-- The exit statuses of the program.
use Rattle.std.specs.Prelude.{ℕ}
use Rattle.mm_commands.specs.declared.status.Status.{Status}
use Rattle.mm_commands.specs.declared.status.Status.TheVariants.{Done, Refused, BadCommandLine}

-- the exit status of the program
abbrev pub exit_code : Status → ℕ
exit_code Done = 0
exit_code Refused = 1
exit_code BadCommandLine = 2
