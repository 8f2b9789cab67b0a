-- A problem whose first step has begun, cell by cell, and what plans lose in it.
use Rattle.std.proofs.Common.{◌≡◌, ◌∙◌, ◌+◌, ◌-◌, ◌*◌, ◌<◌, ◌≤◌, ◌==◌, ◌++◌, ℕ, zero, suc, nat_le, true}
use Rattle.std.proofs.Common.{false, cond, inl, inr, List, Option, refl, sym, ap, ap₂, arith, get_or, length}
use Rattle.std.proofs.Common.{length-drop}
use Rattle.std.proofs.Common.{map}
use Rattle.std.specs.List.{flat_map, range_with_len, sum_by}
use Rattle.std.proofs.lemmas.Bool.{cases_eq}
use Rattle.std.proofs.lemmas.Bool.Decides.{nat_tests}
use Rattle.std.proofs.lemmas.List.{get_or-append-add, get_or-map, get_or_append_left, length-map}
use Rattle.std.proofs.lemmas.List.FromFn.{get_or-map-range_with_len, get_or-range_with_len, length-map-range_with_len}
use Rattle.std.proofs.lemmas.List.FromFn.{length-range_with_len}
use Rattle.mm_base.specs.declared.rows.StoreRow.{StoreRow}
use Rattle.mm_base.proofs.RangeSums.{sum_by_range_more, sum_by_range_same}
use Rattle.mm_base.proofs.Sums.{sum_by-add}
use Rattle.mm_problem.specs.Dumping.{Dumping, IsFlyable, arrivals, setup_size, size, start, stores, window}
use Rattle.mm_problem.specs.Rest.{rest_of}
use Rattle.mm_problem.specs.declared.come.Arrivals.{Arrivals}
use Rattle.mm_problem.specs.declared.come.Arrivals.TheVariants.{Before}
use Rattle.mm_problem.proofs.StepSizes.{size_is_setup}
use Rattle.mm_plan.specs.Volumes.{Amounts, left, left_by, loss, lost, lost_by, there}
use Rattle.mm_plan.proofs.Steps.{left_same, left_size, left_start, left_step}
use Rattle.mm_rest.specs.HaltLaws.{IsHaltOf, resumed}
use Rattle.mm_rest.specs.Halts.{arrivals_left, begun, first_halted, limits_left, rest_of_halt, window_left}
use Rattle.mm_rest.specs.Laws.{loss_until}
use Rattle.mm_rest.specs.Rests.{held_after}
use Rattle.mm_rest.specs.declared.halt.HaltedStep.{HaltedStep}
use Rattle.mm_rest.proofs.Later.{arrivals_of, held_at, many_of, row_of, sums_add_up}

-- ---- tables

-- a cell of a table that is written step by step, in each step column by column
pub table_cell : (g : ℕ → ℕ → ℕ) (columns : List ℕ) (a m i k : ℕ) → i < m → k < length columns
    → get_or (flat_map (λ t. map (g t) columns) (range_with_len a m)) (i * length columns + k) 0
    ≡ g (a + i) (get_or columns k 0)
table_cell g columns a zero i k step place = absurd (omega arith)
table_cell g columns a (suc m) zero k step place =
    let head = map (g a) columns in
    let others = flat_map (λ t. map (g t) columns) (range_with_len (a + 1) m) in
    let at : 0 * length columns + k ≡ k = omega arith in
    let first : a ≡ a + 0 = omega arith in
    ap (λ j. get_or (head ++ others) j 0) at
    ∙ get_or_append_left head others 0 k (omega (arith, length-map columns (g a)))
    ∙ get_or-map (g a) columns k 0 0 place
    ∙ ap (λ j. g j (get_or columns k 0)) first
table_cell g columns a (suc m) (suc i) k step place =
    let head = map (g a) columns in
    let others = flat_map (λ t. map (g t) columns) (range_with_len (a + 1) m) in
    let at : suc i * length columns + k ≡ length head + (i * length columns + k) =
    omega (arith, length-map columns (g a)) in
    let next : a + 1 + i ≡ a + suc i = omega arith in
    ap (λ j. get_or (head ++ others) j 0) at
    ∙ get_or-append-add head others (i * length columns + k) 0
    ∙ table_cell g columns (a + 1) m i k (omega arith) place
    ∙ ap (λ j. g j (get_or columns k 0)) next

module _ (p : Dumping) (w : ℕ) (ls : List (Option ℕ)) where
  pub steps_begun : length (begun p w ls).windows ≡ length p.windows
  steps_begun = length-map-range_with_len (window_left p w) 1 (length p.windows)

  pub window_begun : (t : ℕ) → 1 ≤ t → t ≤ length p.windows → window (begun p w ls) t ≡ window_left p w t
  window_begun t first last =
      get_or-map-range_with_len (window_left p w) 1 (length p.windows) (t - 1) t 0 (omega arith) (omega arith)

  pub arrivals_begun : (s t : ℕ) → s < length p.rows → 1 ≤ t → t ≤ length p.windows
      → arrivals (begun p w ls) s t ≡ arrivals_left p t s
  arrivals_begun s t store first last =
      let long = length-range_with_len 0 (length p.rows) in
      let step : 1 + (t - 1) ≡ t = omega arith in
      let place : 0 + s ≡ s = omega arith in
      ap (λ L. get_or (begun p w ls).arrived ((t - 1) * L + s) 0) (sym long)
      ∙ table_cell (arrivals_left p) (stores p) 1 (length p.windows) (t - 1) s (omega arith) (omega (arith, long))
      ∙ ap₂ (arrivals_left p) step (get_or-range_with_len 0 (length p.rows) s 0 store ∙ place)

-- ---- what is dumped after a halt

zero_plus : (k : ℕ) → 0 + k ≡ k
zero_plus k = omega arith

module _ (n : ℕ) (x z : Amounts) (s : ℕ) where
  pub resumed_before : (t : ℕ) → t < n → resumed n x z s t ≡ x s t
  resumed_before t below =
      let in_run : nat_le t n ≡ true = grind (arith, nat_tests) in
      let not_on : nat_le n t ≡ false = grind (arith, nat_tests) in
      ap₂ (λ a b. cond a (x s t) 0 + cond b (z s (t + 1 - n)) 0) in_run not_on ∙ omega arith

  pub resumed_here : resumed n x z s n ≡ x s n + z s 1
  resumed_here =
      let both : nat_le n n ≡ true = grind (arith, nat_tests) in
      let first : n + 1 - n ≡ 1 = omega arith in
      ap₂ (λ a b. cond a (x s n) 0 + cond a (z s b) 0) both first

  pub resumed_after : (t : ℕ) → 1 ≤ t → resumed n x z s (n + t) ≡ z s (suc t)
  resumed_after t first =
      let past : nat_le (n + t) n ≡ false = grind (arith, nat_tests) in
      let on : nat_le n (n + t) ≡ true = grind (arith, nat_tests) in
      let step : n + t + 1 - n ≡ suc t = omega arith in
      ap₂ (λ a b. cond a (x s (n + t)) 0 + cond b (z s (n + t + 1 - n)) 0) past on
      ∙ zero_plus (z s (n + t + 1 - n)) ∙ ap (z s) step

-- ---- one store in the halted step

-- a dump of what an earlier one let stay leaves what a dump of both leaves
left_twice : (size there a b : ℕ) → left_by Before size (left_by Before size there a + 0) b
    ≡ left_by Before size there (a + b)
left_twice size there a b = omega arith

-- what is lost does not depend on what is dumped
lost_alone : (size there a b : ℕ) → lost_by Before size there a ≡ lost_by Before size there b
lost_alone size there a b = omega arith

-- what fits is not lost
lost_none : (size there a : ℕ) → there ≤ size → lost_by Before size (there + 0) a ≡ 0
lost_none size there a fits = omega arith

-- ---- losses

module _ (q : Dumping) (x z : Amounts) (n : ℕ) (w : ℕ) (ls : List (Option ℕ)) (flyable : IsFlyable q) (first : 1 ≤ n)
    (last : n ≤ length q.windows) where
  abbrev held : List ℕ
  held = held_after q x n

  -- the steps from the halted one on
  abbrev rest : Dumping
  rest = rest_of q (n - 1) held

  -- when the first of them has begun
  abbrev on : Dumping
  on = begun rest w ls

  abbrev whole : Amounts
  whole = resumed n x z

  steps_left : n + length on.windows ≡ length q.windows + 1
  steps_left = omega (arith, steps_begun rest w ls, length-drop (n - 1) q.windows)

  -- each step by what was there
  step_of : (s k t : ℕ) (y : Amounts) → k + 1 ≡ t
      → left q y s t ≡ left_by Before (setup_size q s) (there q y s t) (y s t)
  step_of s k t y next = left_step q y s k t next
      ∙ ap₂ (λ (come : Arrivals) size. left_by come size (there q y s t) (y s t)) flyable.before
      (size_is_setup q s t flyable.one_size)

  lost_of : (s t : ℕ) (y : Amounts) → lost q y s t ≡ lost_by Before (setup_size q s) (there q y s t) (y s t)
  lost_of s t y = ap₂ (λ (come : Arrivals) size. lost_by come size (there q y s t) (y s t)) flyable.before
      (size_is_setup q s t flyable.one_size)

  -- what is left as the halted step begins again is what the run left
  before_halt : (s : ℕ) → left q whole s (n - 1) ≡ left q x s (n - 1)
  before_halt s = left_same q x whole s (n - 1) (λ u low high. resumed_before n x z s u (omega arith))

  there_halt : (s : ℕ) → there q whole s n ≡ there q x s n
  there_halt s = ap (λ v. v + arrivals q s n) (before_halt s)

  module _ (s : ℕ) (store : s < length q.rows) where
    store_on : s < length rest.rows
    store_on = omega (arith, many_of q (n - 1) held)

    size_on : (t : ℕ) → size on s t ≡ setup_size q s
    size_on t = size_is_setup on s t refl ∙ ap (λ (r : StoreRow). r.size) (row_of q (n - 1) held s store)

    start_on : start on s ≡ left q x s n
    start_on = ap (λ (r : StoreRow). r.start) (row_of q (n - 1) held s store) ∙ held_at q x n s store

    step_on : (k t : ℕ) → k + 1 ≡ t → left on z s t ≡ left_by Before (setup_size q s) (there on z s t) (z s t)
    step_on k t next = left_step on z s k t next ∙ ap (λ size. left_by Before size (there on z s t) (z s t)) (size_on t)

    there_first : there on z s 1 ≡ left q x s n + 0
    there_first = ap₂ (λ a b. a + b) (left_start on z s ∙ start_on)
        (arrivals_begun rest w ls s 1 store_on (omega arith) (omega (arith, length-drop (n - 1) q.windows)))

    arrivals_on : (t : ℕ) → 2 ≤ t → t ≤ length on.windows → arrivals on s t ≡ arrivals q s (n - 1 + t)
    arrivals_on t past within =
        let other : (t == 1) ≡ false = grind (arith, nat_tests) in
        arrivals_begun rest w ls s t store_on (omega arith) (omega (arith, steps_begun rest w ls))
        ∙ ap (λ b. cond b 0 (arrivals rest s t)) other
        ∙ arrivals_of q (n - 1) held s t (omega arith)

    there_from : (k : ℕ) → left on z s (suc k) ≡ left q whole s (n + k) → suc (suc k) ≤ length on.windows
        → there on z s (suc (suc k)) ≡ there q whole s (n + suc k)
    there_from k before within =
        let here : suc (suc k) - 1 ≡ suc k = omega arith in
        let past : n + k ≡ n + suc k - 1 = omega arith in
        let step : n - 1 + suc (suc k) ≡ n + suc k = omega arith in
        ap₂ (λ a b. a + b)
        (ap (left on z s) here ∙ before ∙ ap (left q whole s) past)
        (arrivals_on (suc (suc k)) (omega arith) within ∙ ap (arrivals q s) step)

    -- what is left in a step is what is left in the rest
    left_on : (k : ℕ) → suc k ≤ length on.windows → left on z s (suc k) ≡ left q whole s (n + k)
    left_on zero within =
        let at : n ≡ n + 0 = omega arith in
        let before : n - 1 + 1 ≡ n = omega arith in
        let size = setup_size q s in
        step_on 0 1 (omega arith)
        ∙ ap (λ v. left_by Before size v (z s 1)) (there_first ∙ ap (λ v. v + 0) (step_of s (n - 1) n x before))
        ∙ left_twice size (there q x s n) (x s n) (z s 1)
        ∙ ap₂ (left_by Before size) (sym (there_halt s)) (sym (resumed_here n x z s))
        ∙ sym (step_of s (n - 1) n whole before)
        ∙ ap (left q whole s) at
    left_on (suc k) within =
        step_on (suc k) (suc (suc k)) (omega arith)
        ∙ ap₂ (left_by Before (setup_size q s)) (there_from k (left_on k (omega arith)) within)
        (sym (resumed_after n x z s (suc k) (omega arith)))
        ∙ sym (step_of s (n + k) (n + suc k) whole (omega arith))

    lost_on : (t : ℕ) → lost on z s t ≡ lost_by Before (setup_size q s) (there on z s t) (z s t)
    lost_on t = ap (λ size. lost_by Before size (there on z s t) (z s t)) (size_on t)

    -- nothing is lost in what is left of the halted step
    lost_first : lost on z s 1 ≡ 0
    lost_first =
        let before : n - 1 + 1 ≡ n = omega arith in
        let fits : left q x s n ≤ setup_size q s =
        omega (arith, left_size q x s (n - 1) n before, size_is_setup q s n flyable.one_size) in
        lost_on 1 ∙ ap (λ v. lost_by Before (setup_size q s) v (z s 1)) there_first
        ∙ lost_none (setup_size q s) (left q x s n) (z s 1) fits

    lost_later : (t : ℕ) → 1 ≤ t → suc t ≤ length on.windows → lost on z s (1 + t) ≡ lost q whole s (n + t)
    lost_later zero one within = absurd (omega arith)
    lost_later (suc k) one within =
        let next : 1 + suc k ≡ suc (suc k) = omega arith in
        ap (lost on z s) next ∙ lost_on (suc (suc k))
        ∙ ap₂ (lost_by Before (setup_size q s)) (there_from k (left_on k (omega arith)) within)
        (sym (resumed_after n x z s (suc k) one))
        ∙ sym (lost_of s (n + suc k) whole)

    -- up to the halted step as much is lost as in the run
    lost_until : (t : ℕ) → 1 ≤ t → t ≤ n → lost q whole s t ≡ lost q x s t
    lost_until t low high = elim (cases_eq t n) [
      | inl here ↦
          let size = setup_size q s in
          let halted : lost q whole s n ≡ lost q x s n =
          lost_of s n whole ∙ lost_alone size (there q whole s n) (whole s n) (x s n)
          ∙ ap (λ v. lost_by Before size v (x s n)) (there_halt s) ∙ sym (lost_of s n x) in
          rw here halted
      | inr other ↦
          let same = left_same q x whole s (t - 1) (λ u from to. resumed_before n x z s u (omega arith)) in
          ap₂ (λ a b. lost_by q.come (size q s t) (a + arrivals q s t) b) same
          (resumed_before n x z s t (omega arith))
    ]

    -- what the store loses
    store_adds_up : sum_by (lost q whole s) (range_with_len 1 (length q.windows))
        ≡ sum_by (lost q x s) (range_with_len 1 n) + sum_by (lost on z s) (range_with_len 1 (length on.windows))
    store_adds_up =
        let m = length on.windows - 1 in
        let steps : length q.windows ≡ n + m = omega (arith, steps_left) in
        let left_steps : length on.windows ≡ 1 + m = omega (arith, steps_left) in
        let run = sum_by_range_same (lost q whole s) (lost q x s) 1 n (λ t low high. lost_until t low (omega arith)) in
        let after = sum_by_range_same (λ t. lost on z s (1 + t)) (λ t. lost q whole s (n + t)) 1 m
        (λ t low high. lost_later t low (omega arith)) in
        let one = sum_by_range_more (lost on z s) 1 0 1 (omega arith) in
        let none : sum_by (lost on z s) (range_with_len 1 0) ≡ 0 = refl in
        let all : sum_by (lost q whole s) (range_with_len 1 (length q.windows))
        ≡ sum_by (lost q whole s) (range_with_len 1 n) + sum_by (λ t. lost q whole s (n + t)) (range_with_len 1 m) =
        ap (λ k. sum_by (lost q whole s) (range_with_len 1 k)) steps ∙ sums_add_up (lost q whole s) n m in
        let left_all : sum_by (lost on z s) (range_with_len 1 (length on.windows))
        ≡ sum_by (lost on z s) (range_with_len 1 1) + sum_by (λ t. lost on z s (1 + t)) (range_with_len 1 m) =
        ap (λ k. sum_by (lost on z s) (range_with_len 1 k)) left_steps ∙ sums_add_up (lost on z s) 1 m in
        omega (arith, all, left_all, run, after, one, none, lost_first)

  -- what all stores lose
  pub adds_up : loss q whole ≡ loss_until n q x + loss on z
  adds_up =
      let until = λ (s : ℕ). sum_by (lost q x s) (range_with_len 1 n) in
      let later = λ (s : ℕ). sum_by (lost on z s) (range_with_len 1 (length on.windows)) in
      sum_by_range_same _ (λ s. until s + later s) 0 (length q.rows) (λ s low high. store_adds_up s (omega arith))
      ∙ sum_by-add until later (stores q)
      ∙ ap (λ k. loss_until n q x + sum_by later (range_with_len 0 k)) (sym (many_of q (n - 1) held))

-- what is left of the halted step, with the window and the limits that are left
pub halted_is : (q : Dumping) (n : ℕ) (halted : HaltedStep) → rest_of_halt q n halted
    ≡ begun (rest_of q (n - 1) halted.held.items) (window (rest_of q (n - 1) halted.held.items) 1 - halted.spent)
    (limits_left (rest_of q (n - 1) halted.held.items) halted)
unfolding first_halted
halted_is q n halted = refl

pub halt_adds_up : (q : Dumping) (x z : Amounts) (n : ℕ) (halted : HaltedStep) → IsHaltOf q x n halted
    → loss q (resumed n x z) ≡ loss_until n q x + loss (rest_of_halt q n halted) z
halt_adds_up q x z n halted is =
    let rest = rest_of q (n - 1) halted.held.items in
    let w = window rest 1 - halted.spent in
    let ls = limits_left rest halted in
    adds_up q x z n w ls is.flyable is.first is.last
    ∙ ap (λ held. loss_until n q x + loss (begun (rest_of q (n - 1) held) w ls) z) (sym is.held)
    ∙ ap (λ r. loss_until n q x + loss r z) (sym (halted_is q n halted))
