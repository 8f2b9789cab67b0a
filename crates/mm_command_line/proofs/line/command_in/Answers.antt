use Rattle.std.proofs.Common.{◌≡◌, Some, None, find}
use Rattle.std.specs.Str.{bytes_eq}
use Rattle.clap.specs.Words.{found_of, rows_of}
use Rattle.clap.specs.declared.parser.matches.ArgMatches.TheViews.{out-ArgMatches}
use Rattle.mm_command_line.specs.Commands.{Entry, commands, entry_of}
use Rattle.mm_command_line.proofs.Finding.{found_is}
use Rattle.mm_command_line.proofs.line.command_in.Goals as goal

pub returns-in_err-form_of : goal.returns-in_err-form_of
returns-in_err-form_of c =
    let none : None ≡ find (λ (e : Entry). bytes_eq e.0 c.in_ok-word.word.now) commands =
    c.in_err-form_of.ensures.row in
    let read = found_is _ (out-ArgMatches c.args.matches.now).subcommand c.in_ok-word.word.now
    (rows_of (found_of c.in_ok-word.files.now)) None
    c.in_ok-word.ensures.name c.in_ok-word.ensures.rows none in
    record { row = rw c.from_residual-in_err-form_of.ensures read }

pub returns : goal.returns
returns c = record {
  row = found_is _ (out-ArgMatches c.args.matches.now).subcommand c.in_ok-word.word.now
      (rows_of (found_of c.in_ok-word.files.now)) (Some (entry_of c.in_ok-form_of.field-0.now))
      c.in_ok-word.ensures.name c.in_ok-word.ensures.rows c.in_ok-form_of.ensures.row;
}
