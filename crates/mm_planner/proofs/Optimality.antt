-- Every solution of a problem's network gives a plan that loses least, and the cut that shows it.
use Rattle.std.proofs.Common.{◌≡◌, ℕ, ◌<◌, ◌≤◌, length, pos, refl, arith}
use Rattle.std.proofs.lemmas.Int.{ints}
use Rattle.mm_plan.specs.Volumes.{loss}
use Rattle.mm_cut.specs.Cuts as Cuts
use Rattle.mm_planner.specs.Network.{inflow}
use Rattle.mm_planner.specs.Runs.{stretches, counts}
use Rattle.mm_planner.specs.Planned.{SolutionsPlan}
use Rattle.mm_planner.proofs.FromFlow.{fits, loss_within}
use Rattle.mm_planner.proofs.FromSide.{are_stretches, are_counted, inflow_within}

-- from the law that a cut's bound is at most the loss of every plan that fits
pub solutions_plan : Cuts.CutsBoundLosses → SolutionsPlan
solutions_plan bounds q f side value x is solution taken =
    let flow = solution.flow in
    let fits_x = fits q is f value flow x taken in
    let all : length q.rows ≤ length q.rows = omega arith in
    let as_comes : (t s : ℕ) → s < length q.rows → inflow q t s ≡ inflow q t s = λ t s _. refl in
    let ds = stretches q side in
    let ts = counts q side in
    let cut : Cuts.IsCut q ds ts = record {
      stretches = are_stretches q is (length q.rows) all (inflow q) as_comes side solution.cut;
      counted = are_counted q is (length q.rows) all (inflow q) as_comes side solution.cut;
    } in
    let tight : Cuts.bound q ds ts ≡ pos (loss q x) =
    omega (
      arith,
      ints,
      bounds q x ds ts fits_x cut,
      loss_within q is f value flow x taken,
      inflow_within q is (length q.rows) all (inflow q) as_comes side solution.cut,
      solution.equal,
    ) in
    record {
      plan = record { fits = fits_x; least = λ y fits_y. omega (arith, ints, bounds q y ds ts fits_y cut, tight) };
      cut = cut;
      tight = tight;
    }
