-- A window's rest that is given to stores, one after the other.
use Rattle.std.proofs.Common.{◌≡◌, ℕ, ◌+◌, ◌-◌, ◌<◌, ◌≤◌, List, length, get_or, set, sym, inl, inr, arith, get_or-set_same, get_or-set_other, below_more, ◌∙◌}
use Rattle.std.specs.Prelude.{◌≢◌, ◌⊎◌}
use Rattle.std.proofs.lemmas.Bool.{cases_eq}
use Rattle.mm_problem.specs.Dumping.{Dumping, channel}
use Rattle.mm_plan.specs.Table.{Table, amount, HasShape, ChangesAmount}
use Rattle.mm_plan.specs.Volumes.{Amounts, written}
use Rattle.mm_plan.specs.Fit.{FitsAt}
use Rattle.mm_plan.specs.Filled.{IsWindowUsed, IsLimitUsed}
use Rattle.mm_plan.specs.Filling.{SameElsewhere, IsStepFilled}
use Rattle.mm_plan.proofs.Steps.{written_same}
use Rattle.mm_plan.proofs.Lowering.{amount_kept}
use Rattle.mm_plan.proofs.Raises.{IsNoLess, used_kept}

-- no amount of the step is smaller, and the first k stores are served; blocks has what stays
pub record IsServedBelow (q : Dumping) (x y : Amounts) (t k : ℕ) (blocks : List ℕ) : Type 0 where
  pub others : SameElsewhere q x y t
  pub raised : IsNoLess q x y t
  pub fits : FitsAt q y t
  pub split : (s : ℕ) → s < length q.rows → y s t + get_or blocks s 0 ≡ written q x s t
  pub used : (s : ℕ) → s < k → 0 < get_or blocks s 0 → IsWindowUsed q y t ⊎ IsLimitUsed q y t (channel q s)

-- one store more
pub served_more : (q : Dumping) (x : Amounts) (old new : Table) (t k v : ℕ) (blocks : List ℕ) → HasShape q old → IsServedBelow q x (amount old) t k blocks → ChangesAmount old new k t (amount old k t + (get_or blocks k 0 - v)) → k < length q.rows → 1 ≤ t → t ≤ length q.windows → length q.rows ≤ length blocks → v ≤ get_or blocks k 0 → FitsAt q (amount new) t → (0 < v → IsWindowUsed q (amount new) t ⊎ IsLimitUsed q (amount new) t (channel q k)) → IsServedBelow q x (amount new) t (k + 1) (set blocks k v)
served_more q x old new t k v blocks shape is changed store first last places le fits used =
    let within : k < length blocks = omega arith in
    let n : ℕ = amount old k t + (get_or blocks k 0 - v) in
    let same : (s : ℕ) → s < length q.rows → s ≢ k → amount new s t ≡ amount old s t = λ s below other. amount_kept q old new k t n s t shape changed below first last (λ e. absurd (other e)) in
    let stays : (s : ℕ) → s ≢ k → get_or (set blocks k v) s 0 ≡ get_or blocks s 0 = λ s other. get_or-set_other blocks k s v 0 other in
    let now : get_or (set blocks k v) k 0 ≡ v = get_or-set_same blocks k v 0 within in
    let no_less : IsNoLess q (amount old) (amount new) t = λ s below. elim (cases_eq s k) [
      | inl here ↦ rw here (omega (arith, changed.here))
      | inr other ↦ omega (arith, same s below other)
    ] in
    record {
      others = λ s u below from to other. amount_kept q old new k t n s u shape changed below from to (λ e. other) ∙ is.others s u below from to other;
      raised = λ s below. omega (arith, no_less s below, is.raised s below);
      fits = fits;
      split = λ s below. elim (cases_eq s k) [
        | inl here ↦ rw here (omega (arith, changed.here, now, is.split k store))
        | inr other ↦ omega (arith, same s below other, stays s other, is.split s below)
      ];
      used = below_more _ _ (λ s below some. used_kept q (amount old) (amount new) t (channel q s) no_less fits (is.used s below (omega (arith, stays s (omega arith), some)))) (λ some. used (omega (arith, now, some)));
    }

-- all stores
pub served_all : (q : Dumping) (x y : Amounts) (t : ℕ) (blocks : List ℕ) → 1 ≤ t → t ≤ length q.windows → IsServedBelow q x y t (length q.rows) blocks → IsStepFilled q x y t blocks
served_all q x y t blocks first last is = record {
  others = is.others;
  raised = is.raised;
  fits = is.fits;
  split = λ s store. is.split s store ∙ sym (written_same q x y s t (λ u from to. is.others s u store from (omega arith) (omega arith)));
  used = is.used;
}
