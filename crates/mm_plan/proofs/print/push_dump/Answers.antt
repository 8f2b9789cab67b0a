use Rattle.mm_plan.proofs.Prints.{ended_dump}
use Rattle.mm_plan.proofs.print.push_dump.Goals as goal

pub returns : goal.returns
returns c =
    rw (← ended_dump c.args.text.now.items c.args.step c.args.amounts.now) (rw c.in_ok-extend_from_slice.ensures.items at c.push_row.ensures)
