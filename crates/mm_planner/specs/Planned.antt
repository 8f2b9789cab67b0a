-- The result of a planner: a plan that loses least, and a cut that shows it.
use Rattle.std.specs.Prelude.{◌≡◌, ℕ, ◌*◌, ◌≤◌, List, pos, All}
use Rattle.mm_base.specs.declared.limits.TheConstants.{MAX_STORES, MAX_STEPS, MAX_BLOCKS}
use Rattle.mm_problem.specs.Dumping.{Dumping, IsDumping}
use Rattle.mm_plan.specs.Table.{Table, amount, HasShape, IsTable}
use Rattle.mm_plan.specs.Volumes.{Amounts, loss}
use Rattle.mm_plan.specs.Fit.{Fits}
use Rattle.mm_plan.specs.Least.{IsLeast}
use Rattle.mm_plan.specs.Sheet.{SheetRows}
use Rattle.mm_plan.specs.Filled.{IsFilled}
use Rattle.mm_plan.specs.declared.stretch.Stretch.{Stretch}
use Rattle.mm_cut.specs.Cuts.{IsCut, bound}
use Rattle.mm_cut.specs.Firsts.{ShowFirsts}
use Rattle.mm_flow.specs.Flow.{Flow}
use Rattle.mm_flow.specs.Cut.{Side}
use Rattle.mm_flow.specs.Solution.{IsSolution}
use Rattle.mm_planner.specs.declared.nodes.TheConstants.{SOURCE, SINK}
use Rattle.mm_planner.specs.declared.planner.Planned.{Planned}
use Rattle.mm_planner.specs.Network.{net}
use Rattle.mm_planner.specs.Taken.{AreTaken}
use Rattle.mm_planner.specs.Runs.{stretches, counts}

-- the plan has the problem's shape, fits, and leaves no window idle that a store could use
pub record FitsAndFills (q : Dumping) (x : Table) : Type 0 where
  pub shape : HasShape q x
  pub fits : Fits q (amount x)
  pub filled : IsFilled q (amount x)

-- the plan has the problem's shape, loses least and leaves no window idle, and the cut is well formed and shows it: its
-- bound and the plan's loss are n
pub record ShowsLeast (q : Dumping) (x : Table) (ds : List Stretch) (ts : List ℕ) (n : ℕ) : Type 0 where
  pub shape : HasShape q x
  pub least : IsLeast q (amount x)
  pub filled : IsFilled q (amount x)
  pub cut : IsCut q ds ts
  pub loss : loss q (amount x) ≡ n
  pub bound : bound q ds ts ≡ pos n

-- a sheet shows that its plan loses least
abbrev pub SheetShows : Dumping → SheetRows → Type 0
SheetShows q s = ShowsLeast q s.plan s.cut s.by_channels s.loss

-- a plan that loses least, with a certificate that shows it
pub record IsPlan (q : Dumping) (p : Planned) : Type 0 where
  pub shows_least : ShowsLeast q p.plan p.certificate.cut p.certificate.by_channels p.certificate.loss
  pub tight : p.certificate.bound ≡ pos p.certificate.loss
  pub is_table : IsTable p.plan
  pub most : p.certificate.loss ≤ 2 * MAX_BLOCKS * MAX_STEPS * MAX_STORES

-- such a plan, with certificates that show the loss of the first store, of the first two and so on
pub record IsShown (q : Dumping) (p : Planned) : Type 0 where
  pub plan : IsPlan q p
  pub firsts : ShowFirsts q (amount p.plan) p.firsts.items
  pub most : All (λ c. c.loss ≤ 2 * MAX_BLOCKS * MAX_STEPS * MAX_STORES) p.firsts.items

-- the plan loses least, the cut is well formed, and its bound is what the plan loses
pub record IsPlanned (q : Dumping) (x : Amounts) (ds : List Stretch) (ts : List ℕ) : Type 0 where
  pub plan : IsLeast q x
  pub cut : IsCut q ds ts
  pub tight : bound q ds ts ≡ pos (loss q x)

-- every solution of a problem's network gives a plan that loses least and the cut that shows it
abbrev pub SolutionsPlan : Type 0
SolutionsPlan =
    (q : Dumping) (f : Flow) (side : Side) (value : ℕ) (x : Amounts) → IsDumping q
    → IsSolution (net q) SOURCE SINK f side value → AreTaken q f x
    → IsPlanned q x (stretches q side) (counts q side)
