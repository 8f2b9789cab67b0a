use Rattle.std.proofs.Common.{refl, subst, sym}
use Rattle.mm_command_line.specs.declared.task.Task.{Task}
use Rattle.mm_commands.specs.Answers.{AnswersTask, status_of}
use Rattle.mm_commands.proofs.answers.answer_without_run.Goals as goal

pub returns-in_ok-verdict-in-Check-clause-answers : goal.returns-in_ok-verdict-in-Check-clause-answers
returns-in_ok-verdict-in-Check-clause-answers g c =
    let told = c.in_ok-verdict-in-Check.field-0 in
    record {
      answers = subst (λ (task : Task). AnswersTask task c.args.texts.now (status_of told.verdict) told.line.items)
          (sym c.in-Check.is) c.in_ok-verdict-in-Check.ensures.judges;
      output = rw c.in-Check.is refl;
    }
