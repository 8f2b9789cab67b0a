use Rattle.std.proofs.Common.{◌≡◌, ◌-◌, sym, ◌∙◌, arith}
use Rattle.mm_plan.specs.Table.{amount}
use Rattle.mm_plan.proofs.Steps.{left_start, left_most}
use Rattle.mm_plan.proofs.Tabling.{tabled_push, left_before}
use Rattle.mm_plan.proofs.simulation.push.Goals as goal
use Rattle.mm_plan.proofs.simulation.push.Goals.{then-step-eq1, else-step-eq1}

pub volumes_in-requires-clause-before : goal.volumes_in-requires-clause-before
volumes_in-requires-clause-before c = elim c.if-step-eq1.branch [
  | then-step-eq1 w ↦
      let start : c.args.step - 1 ≡ 0 = omega arith in
      rw start (w.before-is ∙ w.start-before.ensures.start ∙ sym (left_start _ _ _))
  | else-step-eq1 w ↦
      w.before-is
      ∙ left_before _ _ _ c.args.store w.stores.result c.args.step w.index.result.now (omega arith)
      w.stores.ensures.stores c.requires.store c.requires.before (rw w.place.ensures at w.index.ensures)
]

pub volumes_in-requires-clause-most : goal.volumes_in-requires-clause-most
volumes_in-requires-clause-most c = elim c.if-step-eq1.branch [
  | then-step-eq1 w ↦ omega arith
  | else-step-eq1 w ↦
      let is_dumping = w.stores.ensures.is_dumping in
      let most = left_most _ (amount c.args.plan.now) c.args.store (c.args.step - 1) is_dumping c.requires.store in
      omega (arith, volumes_in-requires-clause-before c, most)
]

pub returns : goal.returns
returns c =
    rw (c.in_ok-push.ensures.items, c.volumes_in.ensures)
    (tabled_push _ _ c.args.store c.args.step _ c.requires.store c.requires.first c.requires.before)
