-- What a flow takes from the stores is within the range of blocks.
use Rattle.std.proofs.Common.{◌≡◌, ℕ, ◌+◌, ◌-◌, refl, ◌<◌, ◌≤◌, length, slice_index, sym, subst, ◌∙◌, inl, inr, arith}
use Rattle.std.proofs.lemmas.Bool.{cases_eq}
use Rattle.mm_base.specs.declared.limits.TheConstants.{MAX_BLOCKS}
use Rattle.mm_problem.specs.Dumping.{Dumping, IsDumping, window}
use Rattle.mm_plan.specs.Table.{Table, amount, HasShape, ChangesAmount}
use Rattle.mm_base.proofs.RangeSums.{term-le-sum_by_range}
use Rattle.mm_plan.specs.Fit.{in_step}
use Rattle.mm_plan.specs.Volumes.{Amounts}
use Rattle.mm_flow.specs.declared.solved.Solved.{Solved}
use Rattle.mm_flow.specs.Flow.{Flow, IsFlow}
use Rattle.mm_flow.specs.Solution.{IsSolved}
use Rattle.mm_planner.specs.declared.nodes.TheConstants.{SOURCE, SINK}
use Rattle.mm_planner.specs.Network.{inflow, net}
use Rattle.mm_planner.specs.Taken.{take_place, AreTaken, IsTakenTo}
use Rattle.mm_planner.specs.Growing.{IsStep}
use Rattle.mm_planner.proofs.KindSums.{leave}
use Rattle.mm_planner.proofs.FromFlow.{fits}

-- no more leaves a store than the step's window
pub leave_within : (q : Dumping) (f : Flow) (value : ℕ) → IsDumping q → IsFlow (net q) SOURCE SINK f value → (t s : ℕ)
    → 1 ≤ t → t ≤ length q.windows → s < length q.rows → leave q f t s ≤ window q t
leave_within q f value is flow t s first last below =
    let x : Amounts = λ r u. leave q f u r in
    let taken : AreTaken q f x = λ r u _ _ _. refl in
    let fit = fits q is f value flow x taken t first (omega arith) in
    let term = term-le-sum_by_range (in_step x t) 0 (length q.rows) s (omega arith) (omega arith) in
    omega (arith, term, fit.windowed)

-- what is taken is within the range of blocks
pub taken_within : (q : Dumping) (solved : Solved) → IsDumping q → IsSolved (net q) SOURCE SINK solved → (t s : ℕ)
    → IsStep q t → s < length q.rows → slice_index solved.flow.items (take_place q t s) ≤ MAX_BLOCKS
taken_within q solved is are t s step below =
    let window : window q t ≤ MAX_BLOCKS = is.steps.each_window (t - 1) 0 (omega (arith, step.first, step.last)) in
    omega (
      arith,
      window,
      leave_within q (slice_index solved.flow.items) solved.value is are.solution.flow t s step.first
          step.last below,
    )

-- one more amount of a step
pub taken_more : (q : Dumping) (f : Flow) (old new : Table) (t s n : ℕ) → HasShape q old → IsStep q t
    → s < length q.rows → IsTakenTo q f (amount old) t s → ChangesAmount old new s t n → n ≡ f (take_place q t s)
    → IsTakenTo q f (amount new) t (s + 1)
taken_more q f old new t s n shape step below so_far change is = record {
  earlier = λ r u inside from before. change.elsewhere r u
      (record { store = omega (arith, shape.stores); first = from; last = omega (arith, shape.steps, step.last) })
      (λ _ same. omega (arith, same)) ∙ so_far.earlier r u inside from before;
  here = λ r more. elim (cases_eq r s) [
    | inl same ↦ subst (λ k. amount new k t ≡ f (take_place q t k)) (sym same) (change.here ∙ is)
    | inr other ↦ change.elsewhere r t
        (record {
          store = omega (arith, shape.stores);
          first = step.first;
          last = omega (arith, shape.steps, step.last);
        })
        (λ same. absurd (other same)) ∙ so_far.here r (omega (arith, other))
  ];
}

-- all amounts of a step
pub taken_step : (q : Dumping) (f : Flow) (x : Amounts) (t n : ℕ) → length q.rows ≤ n → IsTakenTo q f x t n
    → IsTakenTo q f x (t + 1) 0
taken_step q f x t n all so_far = record {
  earlier = λ s u inside from before. elim (cases_eq u t) [
    | inl same ↦ subst (λ k. x s k ≡ f (take_place q k s)) (sym same) (so_far.here s (omega arith))
    | inr other ↦ so_far.earlier s u inside from (omega (arith, other))
  ];
  here = λ s none. absurd (omega arith);
}
