use Rattle.std.proofs.Common.{◌≡◌, ◌+◌, ◌++◌, drop}
use Rattle.mm_report.specs.Text.{steps_text}
use Rattle.mm_report.proofs.text.push_steps.Given as goal

abbrev pub invariant-loop-step : goal.invariant-loop-step
invariant-loop-step l =
    l.text.items ++ steps_text l.listing l.report.ids (l.step + 1) (drop l.step l.report.steps) ≡ l.initial.text.items ++ steps_text l.listing l.report.ids 1 l.report.steps
