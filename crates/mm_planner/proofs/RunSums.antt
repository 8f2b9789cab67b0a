-- What comes to a store in the steps that its runs cover.
use Rattle.std.proofs.Common.{◌≡◌, ℕ, zero, suc, ◌+◌, ◌<◌, ◌≤◌, Bool, true, false, cond, not, ◌&&◌, eqb, leb, length}
use Rattle.std.proofs.Common.{refl, sym, ap, ◌∙◌, inl, inr, arith}
use Rattle.std.specs.Prelude.{filter}
use Rattle.std.specs.List.{sum_by, range_with_len}
use Rattle.std.proofs.lemmas.Bool.{cases_Bool, cases_lt, cond-true, cond-false, and_parts}
use Rattle.std.proofs.lemmas.Bool.Decides.{nat_tests}
use Rattle.mm_base.proofs.RangeSums.{sum_by_range_one, sum_by_range_same, sum_by_range_zeros}
use Rattle.mm_base.proofs.Sums.{sum_by-add, sum_by-filter}
use Rattle.mm_base.proofs.Tests.{cond-eqb_other, cond-eqb_same}
use Rattle.mm_problem.specs.Dumping.{Dumping, start, arrivals, steps}
use Rattle.mm_flow.specs.Cut.{Side}
use Rattle.mm_planner.specs.declared.nodes.Node.TheVariants.{In, Out}
use Rattle.mm_planner.specs.Network.{inflow}
use Rattle.mm_planner.specs.Runs.{is_on, goes_on, is_end, first_step}
use Rattle.mm_planner.proofs.FromFlow.{sum_by_steps-suc, inflow_is}

-- a run begins with a step of the problem
pub first_step-low : (side : Side) (s t : ℕ) → 1 ≤ first_step side s t
first_step-low side s zero = omega arith
first_step-low side s (suc t) = elim (cases_Bool (goes_on side s t)) [
  | inl on ↦ rw on (first_step-low side s t)
  | inr off ↦ rw off (omega arith)
]

-- and no later than a step of it
pub first_step-high : (side : Side) (s t : ℕ) → first_step side s (suc t) ≤ suc t
first_step-high side s zero = elim (cases_Bool (goes_on side s zero)) [
  | inl on ↦ rw on (omega arith)
  | inr off ↦ rw off (omega arith)
]
first_step-high side s (suc t) = elim (cases_Bool (goes_on side s (suc t))) [
  | inl on ↦ let before = first_step-high side s t in let more : first_step side s (suc t) ≤ suc (suc t) =
      omega arith in rw on more
  | inr off ↦ rw off (omega arith)
]

-- a run continues in each of its steps but the last
pub first_step-goes_on : (side : Side) (s t k : ℕ) → first_step side s t ≤ k → k < t → goes_on side s k ≡ true
first_step-goes_on side s zero k low high = absurd (omega arith)
first_step-goes_on side s (suc t) k low high = elim (cases_Bool (goes_on side s t)) [
  | inl on ↦
      let before : first_step side s t ≤ k = rw on at low in
      elim (cases_lt k t) [
        | inl earlier ↦ first_step-goes_on side s t k before earlier
        | inr last ↦ let same : t ≡ k = omega arith in sym (ap (goes_on side s) same) ∙ on
      ]
  | inr off ↦ let after : suc t ≤ k = rw off at low in absurd (omega arith)
]

module _ (q : Dumping) (s : ℕ) where
  -- what arrives from one step to another
  arrived_over : ℕ → ℕ → ℕ
  arrived_over i j = sum_by (λ t. cond (leb i t && leb t j) (arrivals q s t) 0) (steps q)

  -- a step is among the steps up to the next one where it is among those before or is that one
  one_step_more : (i j t n : ℕ) → i ≤ suc j → cond (leb i t && leb t (suc j)) n 0
      ≡ cond (leb i t && leb t j) n 0 + cond (eqb t (suc j)) n 0
  one_step_more i j t n order = grind (arith, nat_tests)

  -- there is no step between two in the wrong order
  no_steps : (i j t n : ℕ) → j < i → cond (leb i t && leb t j) n 0 ≡ 0
  no_steps i j t n order = grind (arith, nat_tests)

  -- what arrives over one step more
  arrived_over-suc : (i j : ℕ) → i ≤ suc j → j < length q.windows
      → arrived_over i (suc j) ≡ arrived_over i j + arrivals q s (suc j)
  unfolding arrived_over
  arrived_over-suc i j order within =
      let f : ℕ → ℕ = λ t. cond (leb i t && leb t (suc j)) (arrivals q s t) 0 in
      let before : ℕ → ℕ = λ t. cond (leb i t && leb t j) (arrivals q s t) 0 in
      let here : ℕ → ℕ = λ t. cond (eqb t (suc j)) (arrivals q s t) 0 in
      omega (
        arith,
        sum_by_range_same f (λ t. before t + here t) 1 (length q.windows)
            (λ t _ _. one_step_more i j t (arrivals q s t) order),
        sum_by-add before here (steps q),
        sum_by_range_one here 1 (length q.windows) (suc j) (omega arith) (omega arith)
            (λ t _ _ other. cond-eqb_other t (suc j) (arrivals q s t) other),
        cond-eqb_same (suc j) (suc j) (arrivals q s (suc j)) refl,
      )

  -- nothing arrives over no steps
  arrived_over-none : (i j : ℕ) → j < i → arrived_over i j ≡ 0
  unfolding arrived_over
  arrived_over-none i j order = sum_by_range_zeros (λ t. cond (leb i t && leb t j) (arrivals q s t) 0) 1
      (length q.windows) (λ t _ _. no_steps i j t (arrivals q s t) order)

  -- what comes over a run from one step to another
  pub coming_over : ℕ → ℕ → ℕ
  coming_over i j = cond (eqb i 1) (start q s) 0 + arrived_over i j

  -- what comes over a run of one step more
  coming_over-suc : (i j : ℕ) → i ≤ suc j → j < length q.windows
      → coming_over i (suc j) ≡ coming_over i j + arrivals q s (suc j)
  unfolding coming_over
  coming_over-suc i j order within = omega (arith, arrived_over-suc i j order within)

  -- a run of one step
  coming_over-one : (j : ℕ) → j < length q.windows → coming_over (suc j) (suc j) ≡ inflow q (suc j) s
  unfolding coming_over
  coming_over-one j within = omega (
    arith,
    arrived_over-suc (suc j) j (omega arith) within,
    arrived_over-none (suc j) j (omega arith),
  )

  -- how a run's coming is written in a cut
  pub coming_over_is : (i j : ℕ) → cond (eqb i 1) (start q s) 0 + sum_by (arrivals q s)
      (filter (λ t. leb i t && leb t j) (steps q)) ≡ coming_over i j
  unfolding coming_over arrived_over
  coming_over_is i j = omega (arith, sum_by-filter (arrivals q s) (λ t. leb i t && leb t j) (steps q))

  module _ (side : Side) (goes : (t : ℕ) → 1 ≤ t → t < length q.windows → is_on side (Out t s) ≡ true
      → is_on side (In (suc t) s) ≡ true) where
    -- what came over the run that is open after a step
    pending : ℕ → ℕ
    pending zero = 0
    pending (suc t) = cond (goes_on side s (suc t)) (coming_over (first_step side s (suc t)) (suc t)) 0

    -- a run that enters a step ends there or continues
    ends_or_goes_on : (a b : Bool) (n : ℕ) → cond (a && not b) n 0 + cond (a && b) n 0 ≡ cond a n 0
    ends_or_goes_on true true n = omega arith
    ends_or_goes_on true false n = omega arith
    ends_or_goes_on false b n = refl

    -- what came over the run that a step is in
    run_so_far : (t : ℕ) → t < length q.windows → cond (is_on side (In (suc t) s))
        (coming_over (first_step side s (suc t)) (suc t)) 0
        ≡ pending t + cond (is_on side (In (suc t) s)) (inflow q (suc t) s) 0
    unfolding pending
    run_so_far zero within =
        let first : first_step side s (suc zero) ≡ suc zero =
        elim (cases_Bool (goes_on side s zero)) [ inl on ↦ rw on refl | inr off ↦ rw off refl ] in
        omega (
          arith,
          ap (λ i. cond (is_on side (In (suc zero) s)) (coming_over i (suc zero)) 0) first,
          ap (λ n. cond (is_on side (In (suc zero) s)) n 0) (coming_over-one zero within),
        )
    run_so_far (suc t) within = elim (cases_Bool (goes_on side s (suc t))) [
      | inl on ↦
          let parts = and_parts (is_on side (In (suc t) s)) (is_on side (Out (suc t) s)) on in
          let next = goes (suc t) (omega arith) within parts.1 in
          let first : first_step side s (suc (suc t)) ≡ first_step side s (suc t) = rw on refl in
          let low : first_step side s (suc t) ≤ suc (suc t) = omega (arith, first_step-high side s t) in
          let open_run : cond (goes_on side s (suc t)) (coming_over (first_step side s (suc t)) (suc t)) 0
          ≡ coming_over (first_step side s (suc t)) (suc t) =
          cond-true (goes_on side s (suc t)) (coming_over (first_step side s (suc t)) (suc t)) 0 on in
          omega (
            arith,
            cond-true (is_on side (In (suc (suc t)) s)) (coming_over (first_step side s (suc (suc t))) (suc (suc t))) 0
                next,
            cond-true (is_on side (In (suc (suc t)) s)) (inflow q (suc (suc t)) s) 0 next,
            ap (λ i. coming_over i (suc (suc t))) first,
            coming_over-suc (first_step side s (suc t)) (suc t) low within,
            open_run,
            inflow_is q (suc t) s,
          )
      | inr off ↦
          let first : first_step side s (suc (suc t)) ≡ suc (suc t) = rw off refl in
          omega (
            arith,
            ap (λ i. cond (is_on side (In (suc (suc t)) s)) (coming_over i (suc (suc t))) 0) first,
            ap (λ n. cond (is_on side (In (suc (suc t)) s)) n 0) (coming_over-one (suc t) within),
            cond-false (goes_on side s (suc t)) (coming_over (first_step side s (suc t)) (suc t)) 0 off,
          )
    ]

    -- over the first steps, what came over the runs that ended and over the open one is what came in their steps
    runs_so_far : (t : ℕ) → t ≤ length q.windows → sum_by
        (λ u. cond (is_end side s u) (coming_over (first_step side s u) u) 0) (range_with_len 1 t) + pending t
        ≡ sum_by (λ u. cond (is_on side (In u s)) (inflow q u s) 0) (range_with_len 1 t)
    unfolding pending
    runs_so_far zero within = refl
    runs_so_far (suc t) within =
        omega (
          arith,
          sum_by_steps-suc (λ u. cond (is_end side s u) (coming_over (first_step side s u) u) 0) t,
          sum_by_steps-suc (λ u. cond (is_on side (In u s)) (inflow q u s) 0) t,
          runs_so_far t (omega arith),
          run_so_far t (omega arith),
          ends_or_goes_on (is_on side (In (suc t) s)) (is_on side (Out (suc t) s))
              (coming_over (first_step side s (suc t)) (suc t)),
        )

    -- no run is open after a step whose stores hold nothing on the side
    none_pending : (t : ℕ) → is_on side (Out t s) ≡ false → pending t ≡ 0
    unfolding pending
    none_pending zero off = refl
    none_pending (suc t) off = cond-false (goes_on side s (suc t)) (coming_over (first_step side s (suc t)) (suc t)) 0
        (ends (is_on side (In (suc t) s)) (is_on side (Out (suc t) s)) off)
      where
        -- it does not continue
        ends : (a b : Bool) → b ≡ false → (a && b) ≡ false
        ends true b e = e
        ends false b e = refl

    -- what comes over the runs of a store is what comes in their steps
    pub runs_cover : is_on side (Out (length q.windows) s) ≡ false
        → sum_by (λ t. cond (is_end side s t) (coming_over (first_step side s t) t) 0) (steps q)
        ≡ sum_by (λ t. cond (is_on side (In t s)) (inflow q t s) 0) (steps q)
    runs_cover last = omega (arith, runs_so_far (length q.windows) (omega arith), none_pending (length q.windows) last)
