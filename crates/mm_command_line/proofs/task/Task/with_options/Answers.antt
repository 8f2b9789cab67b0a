use Rattle.std.proofs.Common.{◌≡◌, ◌∙◌, ap, arith, false, length, refl, sym, []}
use Rattle.std.proofs.lemmas.List.{length-map}
use Rattle.mm_command_line.specs.Lines.{command_words}
use Rattle.mm_command_line.proofs.Parts.{bare, flags_none, flags_of, has_choice, outputs_none, own_flags, part_of}
use Rattle.mm_command_line.proofs.task.Task.with_options.Goals.{in_default-via-in-Table+else-is_empty}
use Rattle.mm_command_line.proofs.task.Task.with_options.Goals.{in_default-via-in-Rest+else-is_empty-2}
use Rattle.mm_command_line.proofs.task.Task.with_options.Goals.{in_default-via-in-Sensitivity+else-is_empty-3}
use Rattle.mm_command_line.proofs.task.Task.with_options.Goals.{in_default-via-in_default}
use Rattle.mm_command_line.proofs.task.Task.with_options.Goals.{then-is_empty-4+else-is_none, else-is_empty-4}
use Rattle.mm_command_line.proofs.task.Task.with_options.Goals as goal

pub returns-in_err-worth-in-Chart-clause-none : goal.returns-in_err-worth-in-Chart-clause-none
returns-in_err-worth-in-Chart-clause-none c =
    rw c.from_residual-in_err-worth-in-Chart.ensures (λ task same flags names outputs.
    let own = flags_of task _ (same ∙ ap command_words c.in-Chart.is) refl in
    c.in_err-worth-in-Chart.ensures.none own.0 (flags ∙ own.1))

pub returns-in_err-part-in-Mission-clause-none : goal.returns-in_err-part-in-Mission-clause-none
returns-in_err-part-in-Mission-clause-none c =
    rw c.from_residual-in_err-part-in-Mission.ensures (λ task same flags names outputs.
    let own = part_of task _ (same ∙ ap command_words c.in-Mission.is) refl in
    c.in_err-part-in-Mission.ensures.none own.0 (flags ∙ own.1))

pub returns-in_default-2-clause-none : goal.returns-in_default-2-clause-none
returns-in_default-2-clause-none c = λ task same flags names outputs.
    let words = command_words c.args.self in
    let no_flag : has_choice words ≡ false → own_flags words ≡ [] → length c.args.flags.now ≡ 0 = λ other own.
    sym (length-map c.args.flags.now (λ flag. flag.now)) ∙ ap length (flags ∙ flags_none task words same other own) in
    elim c.in_default.branch [
      | in_default-via-in-Table+else-is_empty w ↦
          let none = no_flag (ap (λ t. has_choice (command_words t)) w.in-Table.is)
          (ap (λ t. own_flags (command_words t)) w.in-Table.is) in
          grind (arith, none, w.if-is_empty.ensures)
      | in_default-via-in-Rest+else-is_empty-2 w ↦
          let none = no_flag (ap (λ t. has_choice (command_words t)) w.in-Rest.is)
          (ap (λ t. own_flags (command_words t)) w.in-Rest.is) in
          grind (arith, none, w.if-is_empty-2.ensures)
      | in_default-via-in-Sensitivity+else-is_empty-3 w ↦
          let none = no_flag (ap (λ t. has_choice (command_words t)) w.in-Sensitivity.is)
          (ap (λ t. own_flags (command_words t)) w.in-Sensitivity.is) in
          grind (arith, none, w.if-is_empty-3.ensures)
      | in_default-via-in_default w ↦
          let rest = bare c.args.self w.in_default.not-Plan w.in_default.not-Keep w.in_default.not-Chart w.in_default.not-Table
          w.in_default.not-Rest w.in_default.not-Sensitivity w.in_default.not-Mission w.in_default.not-Fly in
          elim c.if-is_empty-4.branch [
            | then-is_empty-4+else-is_none v ↦
                let none = outputs_none task words _ c.in_ok-output.output same rest.output outputs
                c.in_ok-output.ensures.given in
                grind (arith, none, v.is_none.ensures, v.if-is_none.false)
            | else-is_empty-4 v ↦ let none = no_flag rest.other rest.flags in grind (arith, none, v.if-is_empty-4.ensures)
          ]
    ]
