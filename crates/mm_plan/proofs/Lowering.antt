-- Amounts that are lowered to what is written, store by store.
use Rattle.std.proofs.Common.{◌≡◌, ℕ, ◌+◌, ◌-◌, ◌<◌, ◌≤◌, List, length, get_or, set, min, sym, ◌∙◌, arith, get_or-set_same, get_or-set_other, below_more}
use Rattle.std.specs.Prelude.{◌≢◌}
use Rattle.mm_problem.specs.Dumping.{Dumping}
use Rattle.mm_plan.specs.Table.{Table, amount, HasShape, ChangesAmount}
use Rattle.mm_plan.specs.Volumes.{Amounts, written, left}
use Rattle.mm_plan.specs.Filling.{SameElsewhere, AreSplit}
use Rattle.mm_plan.proofs.Steps.{written_same}
use Rattle.mm_plan.proofs.Raises.{IsRaised}

-- a table keeps its shape
pub shape_kept : (q : Dumping) (old new : Table) (s t n : ℕ) → HasShape q old → ChangesAmount old new s t n → HasShape q new
shape_kept q old new s t n shape changed = record { stores = changed.stores ∙ shape.stores; steps = changed.steps ∙ shape.steps }

-- another place keeps its amount
pub amount_kept : (q : Dumping) (old new : Table) (s t n r u : ℕ) → HasShape q old → ChangesAmount old new s t n → r < length q.rows → 1 ≤ u → u ≤ length q.windows → (r ≡ s → u ≢ t) → amount new r u ≡ amount old r u
amount_kept q old new s t n r u shape changed store first last other =
    changed.elsewhere r u (record { store = omega (arith, shape.stores); first = first; last = omega (arith, shape.steps) }) other

-- one amount is greater by d
pub raised_by : (q : Dumping) (old new : Table) (s t n d : ℕ) → HasShape q old → ChangesAmount old new s t n → s < length q.rows → 1 ≤ t → t ≤ length q.windows → n ≡ amount old s t + d → IsRaised q (amount old) (amount new) s t d
raised_by q old new s t n d shape changed store first last is = record {
  store = store;
  here = changed.here ∙ is;
  others = λ r below other. amount_kept q old new s t n r t shape changed below first last (λ e. absurd (other e));
}

-- in the step the amounts of the first k stores are lowered, and blocks has what stays in them
pub record IsLoweredBelow (q : Dumping) (x y : Amounts) (t k : ℕ) (blocks : List ℕ) : Type 0 where
  pub others : SameElsewhere q x y t
  pub lowered : (s : ℕ) → s < k → y s t ≡ min (x s t) (written q x s t)
  pub split : (s : ℕ) → s < k → y s t + get_or blocks s 0 ≡ written q x s t
  pub rest : (s : ℕ) → s < length q.rows → k ≤ s → y s t ≡ x s t
  pub before : (s : ℕ) → s < length q.rows → k ≤ s → get_or blocks s 0 ≡ left q x s (t - 1)

-- one store more
pub lowered_more : (q : Dumping) (x : Amounts) (old new : Table) (t k n v : ℕ) (blocks : List ℕ) → HasShape q old → IsLoweredBelow q x (amount old) t k blocks → ChangesAmount old new k t n → k < length q.rows → 1 ≤ t → t ≤ length q.windows → length q.rows ≤ length blocks → n ≡ min (x k t) (written q x k t) → n + v ≡ written q x k t → IsLoweredBelow q x (amount new) t (k + 1) (set blocks k v)
lowered_more q x old new t k n v blocks shape is changed store first last places cut split =
    let within : k < length blocks = omega arith in
    let same : (s : ℕ) → s < length q.rows → s ≢ k → amount new s t ≡ amount old s t = λ s below other. amount_kept q old new k t n s t shape changed below first last (λ e. absurd (other e)) in
    let stays : (s : ℕ) → s ≢ k → get_or (set blocks k v) s 0 ≡ get_or blocks s 0 = λ s other. get_or-set_other blocks k s v 0 other in
    record {
      others = λ s u below from to other. amount_kept q old new k t n s u shape changed below from to (λ e. other) ∙ is.others s u below from to other;
      lowered = below_more _ _ (λ s below. same s (omega arith) (omega arith) ∙ is.lowered s below) (changed.here ∙ cut);
      split = below_more _ _ (λ s below. omega (arith, same s (omega arith) (omega arith), stays s (omega arith), is.split s below)) (omega (arith, changed.here, get_or-set_same blocks k v 0 within, split));
      rest = λ s below past. same s below (omega arith) ∙ is.rest s below (omega arith);
      before = λ s below past. stays s (omega arith) ∙ is.before s below (omega arith);
    }

-- all stores
pub lowered_all : (q : Dumping) (x y : Amounts) (t : ℕ) (blocks : List ℕ) → 1 ≤ t → t ≤ length q.windows → IsLoweredBelow q x y t (length q.rows) blocks → AreSplit q y t blocks
lowered_all q x y t blocks first last is = λ s store. is.split s store ∙ sym (written_same q x y s t (λ u from to. is.others s u store from (omega arith) (omega arith)))
