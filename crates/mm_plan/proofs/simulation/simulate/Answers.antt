use Rattle.std.proofs.Common.{◌+◌, ◌*◌, length, refl, ap, arith}
use Rattle.mm_plan.specs.Table.{amount}
use Rattle.mm_plan.specs.Tabled.{AreTabled}
use Rattle.mm_plan.specs.declared.turn.StepVolumes.{StepVolumes}
use Rattle.mm_plan.proofs.Tabling.{last_place, table_place}
use Rattle.mm_plan.proofs.simulation.simulate.Goals as goal

pub loop-step-preserved : goal.loop-step-preserved
loop-step-preserved c =
    rw (last_place (length c.args.problem.now.rows) (c.loop-step.step + 1) c.loop-step.step refl)
    c.in_ok-push_step.ensures

-- the table has a place for each store and step
ends : (c : goal.After-loss_of) → AreTabled c.args.problem.now (amount c.args.plan.now)
    (length c.args.problem.now.windows * length c.args.problem.now.rows) c.loop-step.volumes.items
ends c =
    rw (last_place (length c.args.problem.now.rows) c.loop-step.step (length c.args.problem.now.windows)
    (omega (arith, c.loop-step.auto.step, c.loop-step.auto.step-end))) at c.loop-step.invariant

pub invariant_of-result : goal.invariant_of-result
invariant_of-result c = rw (c.stores.ensures.stores, c.steps.ensures.steps) (ends c).places

pub returns-clause-written : goal.returns-clause-written
returns-clause-written c = λ s t store first last.
    let each = (ends c).each s t store first (table_place c.args.problem.now s t store first last) in
    rw c.stores.ensures.stores (ap (λ (v : StepVolumes). v.written) each)

pub returns-clause-left : goal.returns-clause-left
returns-clause-left c = λ s t store first last.
    let each = (ends c).each s t store first (table_place c.args.problem.now s t store first last) in
    rw c.stores.ensures.stores (ap (λ (v : StepVolumes). v.left) each)

pub returns-clause-lost : goal.returns-clause-lost
returns-clause-lost c = λ s t store first last.
    let each = (ends c).each s t store first (table_place c.args.problem.now s t store first last) in
    rw c.stores.ensures.stores (ap (λ (v : StepVolumes). v.lost) each)
