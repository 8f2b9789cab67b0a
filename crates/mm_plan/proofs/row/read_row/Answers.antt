use Rattle.std.proofs.Common.{◌≡◌, ℕ, ◌+◌, ◌≤◌, ◌++◌, ◌∷◌, [], take, arith, subst, sym}
use Rattle.std.specs.Prelude.{All, slice_set}
use Rattle.std.proofs.lemmas.Grind.{take-set_at}
use Rattle.std.proofs.lemmas.List.Elements.{All-nil, All-cons, All-append}
use Rattle.mm_base.specs.declared.limits.TheConstants.{MAX_BLOCKS}
use Rattle.mm_plan.proofs.Rows.{amount_more}
use Rattle.mm_plan.proofs.row.read_row.Goals as goal

pub loop-place-preserved : goal.loop-place-preserved
loop-place-preserved c =
    let place = c.loop-place.place in
    let old = take place c.loop-place.amounts in
    let number = c.in-Some.front.number in
    let next : take (place + 1) (slice_set c.loop-place.amounts place number) ≡ old ++ number ∷ [] =
    take-set_at c.loop-place.amounts place (place + 1) number (omega arith) (omega arith) in
    let P : ℕ → Type 0 = λ n. n ≤ MAX_BLOCKS in
    let here = All-cons P number [] c.in-Some.ensures.most (All-nil P) in
    record {
      text = amount_more _ _ _ number old _ c.loop-place.invariant.text c.in-Some.ensures.text next;
      most = subst (All P) (sym next) (All-append P old (number ∷ []) c.loop-place.invariant.most here);
    }
