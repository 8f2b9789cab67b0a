use Rattle.std.proofs.Common.{◌-◌, refl, ◌∙◌, arith}
use Rattle.mm_plan.specs.Table.{amount}
use Rattle.mm_plan.specs.Volumes.{Amounts}
use Rattle.mm_plan.proofs.Steps.{left_step}
use Rattle.mm_plan.proofs.simulation.volumes_in.Goals as goal

pub returns : goal.returns
returns c =
    let q = c.args.problem.now in
    let x : Amounts = amount c.args.plan.now in
    let s = c.args.store in
    let t = c.args.step in
    let kept = left_step q x s (t - 1) t (omega arith) in
    c.turn.ensures.volumes ∙ rw (
      kept,
      c.come.ensures.come,
      c.size_in-size.ensures.size,
      c.requires.before,
      c.arrivals.ensures.arrivals,
      c.amount.ensures.amount,
    ) refl
