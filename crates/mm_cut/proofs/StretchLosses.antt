-- What comes into a store over a stretch is lost, leaves in an inner step, or is held as the stretch ends.
use Rattle.std.proofs.Common.{◌≡◌, ℕ, zero, suc, ◌+◌, ◌-◌, ◌<◌, ◌≤◌, min, cond, leb, ltb, ◌&&◌, List, length, ap, arith}
use Rattle.std.specs.List.{sum_by, range_with_len}
use Rattle.std.proofs.lemmas.Bool.Decides.{nat_tests}
use Rattle.std.proofs.lemmas.List.Sums.{sum_by-cons}
use Rattle.mm_problem.specs.declared.come.Arrivals.{Arrivals}
use Rattle.mm_problem.specs.declared.come.Arrivals.TheVariants.{Before, During}
use Rattle.mm_problem.specs.Dumping.{Dumping, size, arrivals, steps}
use Rattle.mm_plan.specs.Volumes.{Amounts, can_leave, left_by, left, there, written, lost}
use Rattle.mm_plan.specs.declared.stretch.Stretch.{Stretch}
use Rattle.mm_plan.proofs.Steps.{left_step, step_balance}
use Rattle.mm_cut.specs.Stretches.{store_of, covers, inner_end, goes_past, IsStretch}
use Rattle.mm_cut.specs.Cuts.{opening, coming, held}
use Rattle.mm_base.proofs.Sums.{sum_by-filter}

-- what arrives at the store of a stretch in a step, where the step is one of the stretch's
abbrev arrives_in : Dumping → Stretch → ℕ → ℕ
arrives_in q d t = cond (covers d t) (arrivals q (store_of q d) t) 0

-- what it loses in the step, where the step is one of the stretch's
abbrev pub lost_in : Dumping → Amounts → Stretch → ℕ → ℕ
lost_in q x d t = cond (covers d t) (lost q x (store_of q d) t) 0

-- what is to leave it in the step, where the step is an inner one
abbrev pub leaves_in : Dumping → Amounts → ℕ → Stretch → ℕ
leaves_in q x t d = cond (goes_past q t d) (x (store_of q d) t) 0

-- the inner steps of a stretch end with its last step or before it
pub inner_end-le : (come : Arrivals) (d : Stretch) → inner_end come d ≤ d.last + 1
inner_end-le Before d = omega arith
inner_end-le During d = omega arith

-- but not before the step before its last
inner_end-ge : (come : Arrivals) (d : Stretch) → d.last ≤ inner_end come d
inner_end-ge Before d = omega arith
inner_end-ge During d = omega arith

-- what leaves in the last step and what is left fit in the store, but for a dump in an inner step
ends_by : (come : Arrivals) (d : Stretch) (size there dump : ℕ)
    → min dump (can_leave come size there) + left_by come size there dump
    ≤ size + cond (ltb d.last (inner_end come d)) dump 0
ends_by Before d size there dump = omega arith
ends_by During d size there dump = grind (arith, nat_tests)

-- a step before others: it begins with b, c arrives, u leaves, b' is left, l is lost; x is to leave, e is the step after
-- the inner ones, and in the last step j no more is held than z
one_step : (i j e a b c u l x b' z come lose leave : ℕ)
    → b + c ≡ u + b' + l
    → u ≤ x
    → (a ≡ j → u + b' ≤ z + cond (ltb a e) x 0)
    → j ≤ e
    → e ≤ j + 1
    → cond (leb i (a + 1) && leb (a + 1) j) b' 0 + come ≤ lose + leave + cond (leb (a + 1) j) z 0
    → cond (leb i a && leb a j) b 0 + (cond (leb i a && leb a j) c 0 + come)
    ≤ (cond (leb i a && leb a j) l 0 + lose) + (cond (leb i a && ltb a e) x 0 + leave) + cond (leb a j) z 0
one_step i j e a b c u l x b' z come lose leave balance leaves last ends end more = grind (arith, nat_tests)

module _ (q : Dumping) (x : Amounts) (d : Stretch) where
  -- what arrives, what is lost and what is to leave in some steps
  abbrev come : List ℕ → ℕ
  come ts = sum_by (arrives_in q d) ts

  abbrev lose : List ℕ → ℕ
  lose ts = sum_by (lost_in q x d) ts

  abbrev leave : List ℕ → ℕ
  leave ts = sum_by (λ t. leaves_in q x t d) ts

  -- in the steps from a on, by induction on their number
  from_step : (a n : ℕ)
      → 1 ≤ a
      → d.last < a + n
      → cond (covers d a) (left q x (store_of q d) (a - 1)) 0 + come (range_with_len a n)
      ≤ lose (range_with_len a n) + leave (range_with_len a n) + cond (leb a d.last) (size q (store_of q d) d.last) 0
  from_step a zero first end = grind (arith, nat_tests)
  from_step a (suc n) first end =
      let s : ℕ = store_of q d in
      let rest : List ℕ = range_with_len (a + 1) n in
      let next : a + 1 - 1 ≡ a = omega arith in
      let more = rw next at (from_step (a + 1) n (omega arith) (omega arith)) in
      let back : a - 1 + 1 ≡ a = omega arith in
      let balance = step_balance q x s (a - 1) a back in
      let u : ℕ = min (x s a) (written q x s a) in
      let most : u ≤ x s a = omega arith in
      let fits = rw (← left_step q x s (a - 1) a back) at (ends_by q.come d (size q s a) (there q x s a) (x s a)) in
      let last : a ≡ d.last → u + left q x s a ≤ size q s d.last + cond (ltb a (inner_end q.come d)) (x s a) 0 =
      λ is. omega (arith, fits, ap (size q s) is, ap (λ k. cond (ltb k (inner_end q.come d)) (x s a) 0) is) in
      let step =
      one_step d.first d.last (inner_end q.come d) a (left q x s (a - 1)) (arrivals q s a) u (lost q x s a) (x s a)
      (left q x s a) (size q s d.last) (come rest) (lose rest) (leave rest) balance most last (inner_end-ge q.come d)
      (inner_end-le q.come d) more in
      let come_more = sum_by-cons (arrives_in q d) a rest in
      let lose_more = sum_by-cons (lost_in q x d) a rest in
      let leave_more = sum_by-cons (λ t. leaves_in q x t d) a rest in
      omega (arith, step, come_more, lose_more, leave_more)

  -- what a stretch begins with is in its store as the first step begins
  opening-le : IsStretch q d → opening q d ≤ cond (covers d 1) (left q x (store_of q d) (1 - 1)) 0
  unfolding left
  opening-le is = grind (arith, nat_tests, is.first, is.order)

  pub coming-le : IsStretch q d → coming q d ≤ lose (steps q) + leave (steps q) + held q d
  coming-le is =
      let at_end : cond (leb 1 d.last) (size q (store_of q d) d.last) 0 ≤ held q d = grind (arith, nat_tests) in
      let arrived = sum_by-filter (arrivals q (store_of q d)) (covers d) (steps q) in
      omega (arith, at_end, opening-le is, from_step 1 (length q.windows) (omega arith) (omega (arith, is.last)), arrived)
