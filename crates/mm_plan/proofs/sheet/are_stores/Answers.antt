use Rattle.std.proofs.Common.{refl, sym, ◌∙◌, arith}
use Rattle.std.proofs.lemmas.Bool.{false≢true}
use Rattle.mm_plan.proofs.Shapes.{same_ids, other_id, differ}
use Rattle.mm_plan.proofs.sheet.are_stores.Goals as goal

pub returns-then-ne : goal.returns-then-ne
returns-then-ne c = (
  λ no. absurd (false≢true no),
  λ same. absurd (differ c.index-ids-place.result c.id.result c.if-ne.ensures
      (other_id c.args.problem.now c.args.ids.now c.loop-place.place c.index-ids-place.result (omega arith) c.index-ids-place.is same ∙ sym c.id.ensures.id)),
)

pub returns : goal.returns
returns c = (λ _. same_ids c.args.problem.now c.args.ids.now (omega arith) (λ k within. c.loop-place.invariant k (omega arith)), λ _. refl)
