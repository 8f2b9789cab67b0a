-- What is printed of a run, before it begins and after it has ended.
use Rattle.std.proofs.Common.{◌≡◌, ◌++◌, ℕ, List, Option, Some, None, Result, Ok, Err, IfOk, ap, refl, inl, ◌∙◌}
use Rattle.std.proofs.Common.{append_assoc, subst, sym}
use Rattle.std.specs.Io.KnownBytes.{Appends}
use Rattle.mm_command_line.specs.Names.{names_in}
use Rattle.mm_command_line.specs.declared.task.FlightFiles.{FlightFiles}
use Rattle.mm_command_line.specs.declared.task.FlightPlan.{FlightPlan}
use Rattle.mm_command_line.specs.declared.task.Task.TheVariants.{Fly}
use Rattle.mm_run.specs.declared.printed.Printed.{Printed}
use Rattle.mm_commands.specs.Answers.{FliesTexts, PrintsFlown, status_of_run, tells_rest}
use Rattle.mm_commands.specs.Halts.{LeadsReport}
use Rattle.mm_files.specs.Contents.{FilesView, WereRead}
use Rattle.mm_commands.specs.Reading.{readings_of}
use Rattle.mm_commands.specs.Refusing.{Settles}
use Rattle.mm_commands.specs.declared.status.Status.{Status}
use Rattle.mm_commands.specs.declared.texts.TaskTexts.{TaskTexts}

-- bytes that are written after others
Appends-append : (before mid after : Option (List ℕ)) (first second : List ℕ) → Appends before mid first
    → Appends mid after second → Appends before after (first ++ second)
Appends-append None mid after first second one two = tt
Appends-append (Some before) None after first second one two = absurd one
Appends-append (Some before) (Some mid) None first second one two = absurd two
Appends-append (Some before) (Some mid) (Some after) first second one two = two ∙ ap (λ l. l ++ second) one
    ∙ append_assoc before first second

-- the plan was printed, and then the rest
pub prints-flown : (plan : FlightPlan) (texts : TaskTexts) (printed : Printed) (sheet lead : List ℕ) (status : Status)
    (before mid after : Option (List ℕ))
    → FliesTexts plan texts printed → LeadsReport (tells_rest plan) texts printed.left lead
    → printed.sheet.items ≡ sheet → status ≡ status_of_run printed.outcome
    → Appends before mid sheet → Appends mid after (lead ++ printed.report.items ++ printed.end.items)
    → PrintsFlown plan texts status before after
prints-flown plan texts printed sheet lead status before mid after flies leads is ended one two = record {
  text = printed.sheet.items ++ (lead ++ printed.report.items ++ printed.end.items);
  flown = record {
    printed = printed;
    flies = flies;
    lead = lead;
    leads = leads;
    text_is = refl;
    status_is = ended;
  };
  printed = Appends-append before mid after printed.sheet.items (lead ++ printed.report.items ++ printed.end.items)
      (rw is one) two;
}

-- the task is done, whose files are as they were
pub flown-settles : {E : Type 0} (old new : FilesView) (files : FlightFiles) (texts : TaskTexts)
    (before after : Option (List ℕ)) (result : Result Status E)
    → new.contents ≡ old.contents → WereRead old.contents old.readings new.readings
    (readings_of (names_in (Fly files)) texts)
    → IfOk result (λ status. PrintsFlown files.plan texts status before after)
    → IfOk result (λ status. Settles old new (Fly files) status before after)
flown-settles old new files texts before after (Ok status) same read flown = inl (inl (record {
  texts = texts;
  read = read;
  text = flown.text;
  answers = flown.flown;
  given = (same, flown.printed);
  others = tt;
}))
flown-settles old new files texts before after (Err e) same read flown = tt
