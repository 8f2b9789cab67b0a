-- No plan that fits loses less than the bound of any cut.
use Rattle.std.proofs.Common.{◌≡◌, ℕ, ◌+◌, ◌≤◌, List, length, pos, arith}
use Rattle.std.specs.List.{sum_by}
use Rattle.std.proofs.lemmas.Int.{ints}
use Rattle.mm_problem.specs.Dumping.{Dumping, steps}
use Rattle.mm_plan.specs.Volumes.{Amounts, loss, first_loss}
use Rattle.mm_plan.specs.Fit.{Fits}
use Rattle.mm_plan.specs.Least.{IsLeast}
use Rattle.mm_plan.specs.declared.stretch.Stretch.{Stretch}
use Rattle.mm_cut.specs.Cuts.{IsCut, IsFirstCut, coming, held, leaving_sum, bound, CutsBoundLosses, FirstCutsBoundLosses}
use Rattle.mm_base.proofs.Sums.{sum_by-le_each, sum_by-add}
use Rattle.mm_cut.proofs.StretchLosses.{lost_in, leaves_in, coming-le}
use Rattle.mm_cut.proofs.Exchange.{lost_in_first, leaves_in_all}

-- what comes in over the stretches of a cut is lost, may leave, or may be held
coming_sum-le : (k : ℕ) (q : Dumping) (x : Amounts) (ds : List Stretch) (ts : List ℕ) → Fits q x → IsFirstCut k q ds ts → sum_by (coming q) ds ≤ first_loss k q x + leaving_sum q ds ts + sum_by (held q) ds
coming_sum-le n q x ds ts fits of_first =
    let cut = of_first.cut in
    let lost : Stretch → ℕ = λ d. sum_by (lost_in q x d) (steps q) in
    let leaves : Stretch → ℕ = λ d. sum_by (λ t. leaves_in q x t d) (steps q) in
    let each = sum_by-le_each (coming q) (λ d. lost d + leaves d + held q d) ds (λ k d inside. coming-le q x _ (cut.stretches.each k d inside)) in
    omega (arith, each, sum_by-add (λ d. lost d + leaves d) (held q) ds, sum_by-add lost leaves ds, lost_in_first q x ds cut.stretches n of_first.first, leaves_in_all q x ds cut.stretches ts fits cut.counted)

pub first_cuts_bound_losses : FirstCutsBoundLosses
first_cuts_bound_losses k q x ds ts fits cut = omega (arith, ints, coming_sum-le k q x ds ts fits cut)

pub cuts_bound_losses : CutsBoundLosses
cuts_bound_losses q x ds ts fits cut =
    first_cuts_bound_losses (length q.rows) q x ds ts fits (record { cut = cut; first = λ k d inside. (cut.stretches.each k d inside).store })

-- a plan that fits and loses what some cut's bound says loses least
pub IsLeast-from_cut : (q : Dumping) (x : Amounts) (ds : List Stretch) (ts : List ℕ) → Fits q x → IsCut q ds ts → pos (loss q x) ≡ bound q ds ts → IsLeast q x
IsLeast-from_cut q x ds ts fits cut tight = record {
  fits = fits;
  least = λ y fits_too. omega (arith, ints, cuts_bound_losses q y ds ts fits_too cut, tight);
}
