-- The sheet of a plan that keeps the first steps of another plan, and loses least after them.
use Rattle.std.specs.Prelude.{◌≡◌, ℕ, ◌+◌, ◌≤◌, ◌==◌, if◌then◌else◌, List, None, map, pos}
use Rattle.std.specs.List.Sorted.{IsPermutation}
use Rattle.mm_base.specs.declared.limits.TheConstants.{MAX_STEPS}
use Rattle.mm_problem.specs.Dumping.{Dumping}
use Rattle.mm_plan.specs.Fit.{Fits, FitsBefore}
use Rattle.mm_plan.specs.Least.{IsLeast}
use Rattle.mm_plan.specs.Sheet.{SheetRows, IsSheet, IsShapedFor}
use Rattle.mm_plan.specs.Table.{amount}
use Rattle.mm_plan.specs.Volumes.{Amounts, loss}
use Rattle.mm_plan.specs.declared.stretch.Stretch.{Stretch}
use Rattle.mm_cut.specs.Cuts.{IsCut, bound}
use Rattle.mm_rest.specs.Laws.{LosesLeastAfter, SameUntil, later}
use Rattle.mm_rest.specs.Rests.{rest_after}

-- the stretch that many steps later; if it begins with the first step, it begins with this step instead
abbrev pub later_stretch : ℕ → ℕ → Stretch → Stretch
later_stretch n first d = record {
  store = d.store;
  first = if d.first == 1 then first else n + d.first;
  last = n + d.last;
}

-- the counted steps that many steps later
abbrev pub later_counts : ℕ → List ℕ → List ℕ
later_counts n counts = map (λ t. n + t) counts

-- from whichever step up to the first later one its first stretches begin, the cut of a sheet is one of the problem, that
-- many steps later
abbrev pub AreLaterCuts : Dumping → ℕ → SheetRows → Type 0
AreLaterCuts q n s = (first : ℕ) → 1 ≤ first → first ≤ n + 1
    → IsCut q (map (later_stretch n first) s.cut) (later_counts n s.by_channels)

-- its steps are among those that a problem may have
abbrev pub IsEarly : Stretch → Type 0
IsEarly d = (d.first ≤ MAX_STEPS) × (d.last ≤ MAX_STEPS)

-- stretches and counted steps are, that many steps later and in any order, those of a cut of the rest, whose bound is
-- what the plan loses there; stretches that begin with the rest may begin with an earlier step
pub record ShowsRest (n : ℕ) (rest : Dumping) (y : Amounts) (cut : List Stretch) (counts : List ℕ) : Type 0 where
  pub stretches : List Stretch
  pub by_channels : List ℕ
  pub is_cut : IsCut rest stretches by_channels
  pub tight : bound rest stretches by_channels ≡ pos (loss rest (later n y))
  pub first : ℕ
  pub from : 1 ≤ first
  pub until : first ≤ n + 1
  pub stretches_are : IsPermutation (map (later_stretch n first) stretches) cut
  pub counts_are : IsPermutation (later_counts n by_channels) counts

-- a sheet for the problem, whose plan has the amounts of a plan up to a step
pub record IsKeptSheet (q : Dumping) (x : Amounts) (n : ℕ) (s : SheetRows) : Type 0 where
  pub is_sheet : IsSheet s
  pub shape : IsShapedFor q s
  pub plain : s.firsts ≡ None
  pub kept : SameUntil q n x (amount s.plan)
  -- its later steps are a least plan of what is left, and no plan that fits and has the same first steps loses fewer
  pub rest : IsLeast (rest_after q x n) (later n (amount s.plan))
  pub least_after : LosesLeastAfter q n (amount s.plan)
  -- it fits where the steps that are kept fit
  pub fits : FitsBefore q x (n + 1) → Fits q (amount s.plan)
  -- its loss is that of the whole plan; its cut is one of the whole problem, with its bound there, and shows what the
  -- later steps lose
  pub loss : s.loss ≡ loss q (amount s.plan)
  pub cut : IsCut q s.cut s.by_channels
  pub bound : s.bound ≡ bound q s.cut s.by_channels
  pub shows : ShowsRest n (rest_after q x n) (amount s.plan) s.cut s.by_channels
