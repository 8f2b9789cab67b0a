use Rattle.std.proofs.Common.{◌∙◌, ◌<◌, ◌++◌, [], ◌∷◌, ap₂, arith, length, sym}
use Rattle.std.proofs.lemmas.List.FromFn.{map-range_with_len_more}
use Rattle.mm_plan.specs.Table.{amount}
use Rattle.mm_plan.specs.Volumes.{left}
use Rattle.mm_rest.proofs.rest.held_after.Goals as goal

pub loop-store-preserved : goal.loop-store-preserved
loop-store-preserved c =
    let q = c.args.problem.now in
    let x = amount c.args.plan.now in
    let s = c.loop-store.store in
    let within : s < length q.rows = omega (arith, c.stores-store-end.ensures.stores) in
    let held = c.left.ensures
    ∙ c.in_ok-volumes.ensures.left s c.args.step within c.requires.first c.requires.last in
    c.in_ok-push.ensures.items ∙ ap₂ (λ xs n. xs ++ n ∷ []) c.loop-store.invariant held
    ∙ sym (map-range_with_len_more (λ s. left q x s c.args.step) 0 s s (omega arith))
