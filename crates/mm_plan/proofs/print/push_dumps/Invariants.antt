use Rattle.std.proofs.Common.{◌+◌, ◌-◌, ◌++◌}
use Rattle.mm_plan.specs.Sheet.{dump_lines}
use Rattle.mm_plan.specs.Printing.{all_ended}
use Rattle.mm_plan.proofs.Prints.{AreDumped}
use Rattle.mm_plan.proofs.print.push_dumps.Given as goal

abbrev pub invariant-loop-step : goal.invariant-loop-step
invariant-loop-step l =
    AreDumped l.stores (l.step + 1) (l.steps - l.step) l.text.items l.rest
    (l.initial.text.items ++ all_ended (dump_lines l.stores 1 l.steps l.amounts))
