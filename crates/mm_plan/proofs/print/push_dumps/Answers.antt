use Rattle.std.proofs.Common.{◌+◌, ◌-◌, arith}
use Rattle.mm_plan.proofs.Prints.{more_dumped}
use Rattle.mm_plan.proofs.print.push_dumps.Goals as goal

pub loop-step-preserved : goal.loop-step-preserved
loop-step-preserved c =
    more_dumped (c.args.steps - (c.loop-step.step + 1)) c.push_dump.new.text.items _ c.loop-step.invariant (omega arith)
    (rw (← c.split_at.ensures.front) c.in_ok-push_dump.ensures) c.split_at.ensures.back
