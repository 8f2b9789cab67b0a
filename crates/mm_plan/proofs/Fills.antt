-- Plans that are filled step by step.
use Rattle.std.proofs.Common.{◌≡◌, ℕ, ◌+◌, ◌-◌, ◌<◌, ◌≤◌, List, length, get_or, min, refl, sym, ap, ◌∙◌, inl, inr, arith}
use Rattle.std.proofs.lemmas.Bool.{cases_lt}
use Rattle.mm_problem.specs.Dumping.{Dumping, size, start, channel}
use Rattle.mm_plan.specs.Volumes.{Amounts, held_by, written, left, stays}
use Rattle.mm_plan.specs.Fit.{FitsAt, Fits}
use Rattle.mm_plan.specs.Filled.{IsFilledAt, IsNowhereWorse}
use Rattle.mm_plan.specs.Filling.{SameElsewhere, IsLoweredAt, AreLeft, AreSplit, AreHeld, IsStepFilled}
use Rattle.mm_plan.proofs.Steps.{left_start, left_step, written_same, left_no_more, lost_no_more}
use Rattle.mm_plan.proofs.Raises.{IsNoLess, used_kept, fits_no_more}

-- the second plan fits and is filled in the step, and lets as much leave as the first, or all that is there
pub record IsDoneAt (q : Dumping) (x y : Amounts) (t : ℕ) : Type 0 where
  pub fits : FitsAt q y t
  pub filled : IsFilledAt q y t
  pub kept : (s : ℕ) → s < length q.rows → min (x s t) (written q y s t) ≤ y s t

-- the steps before step n are done, and the others are as they were; blocks has what is left
pub record IsDoneBefore (q : Dumping) (x y : Amounts) (n : ℕ) (blocks : List ℕ) : Type 0 where
  pub done : (t : ℕ) → 1 ≤ t → t < n → IsDoneAt q x y t
  pub later : (s t : ℕ) → s < length q.rows → n ≤ t → t ≤ length q.windows → y s t ≡ x s t
  pub volumes : AreLeft q y (n - 1) blocks

-- before the first step
pub done_start : (q : Dumping) (x : Amounts) (blocks : List ℕ)
    → ((s : ℕ) → s < length q.rows → get_or blocks s 0 ≡ start q s) → IsDoneBefore q x x 1 blocks
done_start q x blocks starts = record {
  done = λ t first before. absurd (omega arith);
  later = λ s t store from to. refl;
  volumes = λ s store. starts s store ∙ sym (left_start q x s);
}

-- it stays done where amounts of later steps change
done_along : (q : Dumping) (x y z : Amounts) (t : ℕ) → 1 ≤ t
    → ((s u : ℕ) → s < length q.rows → 1 ≤ u → u ≤ t → z s u ≡ y s u) → IsDoneAt q x y t → IsDoneAt q x z t
done_along q x y z t first same is =
    let here : (s : ℕ) → s < length q.rows → z s t ≡ y s t = λ s store. same s t store first (omega arith) in
    let no_less : IsNoLess q y z t = λ s store. omega (arith, here s store) in
    let fits : FitsAt q z t = fits_no_more q y z t (λ s store. omega (arith, here s store)) is.fits in
    let is_written : (s : ℕ) → s < length q.rows → written q z s t ≡ written q y s t =
    λ s store. written_same q y z s t (λ u from to. same s u store from (omega arith)) in
    let is_kept : (s : ℕ) → s < length q.rows → stays q z s t ≡ stays q y s t =
    λ s store. omega (arith, is_written s store, here s store) in
    record {
      fits = fits;
      filled = record {
        held = λ s store. omega (arith, here s store, is_written s store, is.filled.held s store);
        used = λ s store some. used_kept q y z t (channel q s) no_less fits
            (is.filled.used s store (omega (arith, is_kept s store, some)));
      };
      kept = λ s store. omega (arith, here s store, is_written s store, is.kept s store);
    }

-- a step's amounts that are lowered fit, where the plan given fits
pub lowered_fits : (q : Dumping) (x y z : Amounts) (t : ℕ) (blocks : List ℕ) → t ≤ length q.windows
    → IsDoneBefore q x y t blocks → IsLoweredAt q y z t → FitsAt q x t → FitsAt q z t
lowered_fits q x y z t blocks last is cut fits =
    fits_no_more q x z t (λ s store. omega (arith, cut s store, is.later s t store (omega arith) last)) fits

-- what stays once a step's amounts are split
split_stays : (q : Dumping) (y : Amounts) (t : ℕ) (blocks : List ℕ) → AreSplit q y t blocks
    → (s : ℕ) → s < length q.rows → get_or blocks s 0 ≡ stays q y s t
split_stays q y t blocks split = λ s store. omega (arith, split s store)

-- what is left once the blocks that stay are held
held_left : (q : Dumping) (y : Amounts) (t : ℕ) (blocks held : List ℕ) → 1 ≤ t → AreSplit q y t blocks
    → AreHeld q t blocks held → AreLeft q y t held
held_left q y t blocks held first split cut = λ s store.
    cut s store ∙ ap (held_by q.come (size q s t)) (split_stays q y t blocks split s store)
    ∙ sym (left_step q y s (t - 1) t (omega arith))

-- one step more: y, with its amounts lowered z, and with the rest of the window used w; held has what is held of what
-- stays
pub done_more : (q : Dumping) (x y z w : Amounts) (t : ℕ) (blocks new held : List ℕ) → 1 ≤ t → t ≤ length q.windows
    → IsDoneBefore q x y t blocks → SameElsewhere q y z t → IsLoweredAt q y z t → IsStepFilled q z w t new
    → AreHeld q t new held → IsDoneBefore q x w (t + 1) held
done_more q x y z w t blocks new held first last is apart cut filled holds =
    let others : SameElsewhere q y w t =
    λ s u store from to other. filled.others s u store from to other ∙ apart s u store from to other in
    let stay = split_stays q w t new filled.split in
    let here : IsDoneAt q x w t = record {
      fits = filled.fits;
      filled = record {
        held = λ s store. omega (arith, filled.split s store);
        used = λ s store some. filled.used s store (omega (arith, stay s store, some));
      };
      kept = λ s store.
          let same = written_same q y w s t (λ u from to. others s u store from (omega arith) (omega arith)) in
          omega (arith, same, cut s store, filled.raised s store, is.later s t store (omega arith) last);
    } in
    record {
      done = λ u from to. elim (cases_lt u t) [
        | inl before ↦ done_along q x y w u from
            (λ s k store low high. others s k store low (omega arith) (omega arith)) (is.done u from before)
        | inr past ↦ let same : u ≡ t = omega arith in rw same here
      ];
      later = λ s u store from to. others s u store (omega arith) to (omega arith)
          ∙ is.later s u store (omega arith) to;
      volumes = let same : t + 1 - 1 ≡ t = omega arith in rw same (held_left q w t new held first filled.split holds);
    }

-- all steps
pub done_fits : (q : Dumping) (x y : Amounts) (n : ℕ) (blocks : List ℕ) → n ≡ length q.windows + 1
    → IsDoneBefore q x y n blocks → Fits q y
done_fits q x y n blocks all is = λ t first below. (is.done t first (omega arith)).fits

pub done_no_worse : (q : Dumping) (x y : Amounts) (n : ℕ) (blocks : List ℕ) → n ≡ length q.windows + 1
    → IsDoneBefore q x y n blocks → IsNowhereWorse q x y
done_no_worse q x y n blocks all is =
    let volumes : (s t : ℕ) → s < length q.rows → t ≤ length q.windows → left q y s t ≤ left q x s t =
    λ s t store last. left_no_more q x y s t (λ u from to. (is.done u from (omega arith)).kept s store) in
    record {
      volumes = λ s t store first last. volumes s t store last;
      losses = λ s t store first last. lost_no_more q x y s t (volumes s (t - 1) store (omega arith))
          ((is.done t first (omega arith)).kept s store);
    }
