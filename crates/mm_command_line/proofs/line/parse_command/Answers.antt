use Rattle.std.proofs.Common.{◌≡◌, Some, map}
use Rattle.clap.proofs.TakesLemmas.{passed_up}
use Rattle.clap.specs.Words.{app_of, kind_of, subcommand_rows_of}
use Rattle.clap.specs.declared.error.kind.ErrorKind.TheVariants.{OutOfMemory}
use Rattle.mm_command_line.specs.Commands.{line_found}
use Rattle.mm_command_line.specs.Lines.{IsCommandLine}
use Rattle.mm_command_line.proofs.Taking.{finds, passes}
use Rattle.mm_command_line.proofs.line.parse_command.Goals as goal

pub returns-in_err-matches-clause-memory : goal.returns-in_err-matches-clause-memory
returns-in_err-matches-clause-memory c line =
    let words = map (λ word. word.now) c.args.words.now in
    let taken = passes (app_of c.in_ok-command.command) words c.in_ok-command.ensures.commands line in
    passed_up c.from_residual-in_err-matches.result c.in_err-matches.field-0.0 (λ e. kind_of e ≡ OutOfMemory)
    c.from_residual-in_err-matches.ensures.1 (c.in_err-matches.ensures.passes taken)

pub returns-clause-memory : goal.returns-clause-memory
returns-clause-memory c line =
    let words = map (λ word. word.now) c.args.words.now in
    let found = finds (app_of c.in_ok-command.command) words c.in_ok-matches.matches c.in_ok-command.ensures.commands
    c.in_ok-matches.ensures.ok.2 line in
    let unread : (IsCommandLine words → line_found (subcommand_rows_of c.in_ok-matches.matches) ≡ Some words → ⊥) =
    rw c.in-None.is at c.in_ok-task.ensures.none in
    absurd (unread line found)
