use Rattle.std.proofs.Common.{◌≡◌, map, drop, false, fold}
use Rattle.clap.specs.Words.{app_of}
use Rattle.mm_command_line.specs.Commands.{app_by, entry_of, has_globals, name_of, with_file}
use Rattle.mm_command_line.proofs.command.command_of.Given as goal

-- with the files that are left the command is whole
abbrev pub invariant-loop-file : goal.invariant-loop-file
invariant-loop-file l =
    (fold with_file (app_of l.command) (map name_of (drop l.file-index l.form.files.now)) ≡
    app_by (entry_of l.form))
    × (has_globals l.command ≡ false)
