-- What was printed of an answer.
use Rattle.std.proofs.Common.{◌≡◌, ◌⊎◌, List, ℕ, Option, Result, Ok, Err, IfOk, IfSome, sym, subst, inl}
use Rattle.mm_commands.specs.declared.status.Status.{Status}
use Rattle.mm_commands.specs.declared.answers.Answer.{Answer}
use Rattle.mm_command_line.specs.Lines.{output_of}
use Rattle.mm_command_line.specs.Names.{names_in}
use Rattle.mm_command_line.specs.declared.task.Task.{Task}
use Rattle.mm_files.specs.Contents.{FilesView, WereRead}
use Rattle.mm_commands.specs.Reading.{readings_of}
use Rattle.mm_commands.specs.Streams.{file_of}
use Rattle.mm_commands.specs.declared.texts.TaskTexts.{TaskTexts}
use Rattle.mm_commands.specs.Answers.{AnswersTask, AreOthers, Gives, IsAnswerTo, output_in, text_in, status_in}
use Rattle.mm_commands.specs.Refusing.{Completes}

-- what answers the task was given, after its files were read
pub answer-prints : {E : Type 0} (R : Status → Type 0) (start mid new : FilesView) (task : Task) (texts : TaskTexts)
    (answer : Answer)
    (before after : Option (List ℕ)) (result : Result Status E)
    → mid.contents ≡ start.contents → WereRead start.contents start.readings mid.readings
    (readings_of (names_in task) texts) → new.readings ≡ mid.readings
    → IfOk result (λ status. Gives (file_of start.streams (output_in answer)) (text_in answer) mid.contents new.contents
    before after) → IfOk result (λ status. IfSome (file_of start.streams (output_in answer))
    (λ name. AreOthers (names_in task) name.now)) → IfOk result (λ status. status ≡ status_in answer)
    → IsAnswerTo task texts answer → IfOk result (λ status. Completes start new task status before after ⊎ R status)
answer-prints R start mid new task texts answer before after (Ok status) same read unread given others is it =
    let into : Gives (file_of start.streams (output_of task)) (text_in answer) start.contents new.contents before
    after =
    subst (λ name. Gives (file_of start.streams name) (text_in answer) start.contents new.contents before after)
    it.output
    (subst (λ known. Gives (file_of start.streams (output_in answer)) (text_in answer) known new.contents before after)
    same given) in
    let apart : IfSome (file_of start.streams (output_of task)) (λ name. AreOthers (names_in task) name.now) =
    subst (λ output. IfSome (file_of start.streams output) (λ name. AreOthers (names_in task) name.now)) it.output
    others in
    inl (inl (record {
      texts = texts;
      read = subst (λ after. WereRead start.contents start.readings after (readings_of (names_in task) texts))
          (sym unread) read;
      text = text_in answer;
      answers = subst (λ s. AnswersTask task texts s (text_in answer)) (sym is) it.answers;
      given = into;
      others = apart;
    }))
answer-prints R start mid new task texts answer before after (Err e) same read unread given others is it = tt
