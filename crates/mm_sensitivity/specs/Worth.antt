-- How many blocks fewer the least plan loses if a number of the problem is larger.
use Rattle.std.specs.Prelude.{◌≡◌, ℕ, ◌+◌, ◌≤◌, min, List, length}
use Rattle.mm_base.specs.declared.limits.TheConstants.{MAX_BLOCKS}
use Rattle.mm_problem.specs.Dumping.{Dumping, IsDumping, window}
use Rattle.mm_problem.specs.Changed.{with_window}
use Rattle.mm_plan.specs.Volumes.{Amounts, loss}
use Rattle.mm_plan.specs.declared.stretch.Stretch.{Stretch}
use Rattle.mm_planner.specs.Planned.{IsPlanned, IsPlan}
use Rattle.mm_planner.specs.declared.planner.Planned.{Planned}
use Rattle.mm_sensitivity.specs.declared.worth.Worth.{Worth}
use Rattle.mm_sensitivity.specs.Items.{IsItem, number, next_number, least_number, with_number}

-- the least loss of a problem: it is that of a plan that fits, and the bound of a cut
pub record IsLeastLoss (q : Dumping) (n : ℕ) : Type 0 where
  pub plan : Amounts
  pub cut : List Stretch
  pub by_channels : List ℕ
  pub planned : IsPlanned q plan cut by_channels
  pub loss : loss q plan ≡ n

-- a plan that loses least in the problem, with a cut that shows it
pub record IsPlanFor (q : Dumping) (p : Planned) : Type 0 where
  pub problem : IsDumping q
  pub plan : IsPlan q p

-- the least loss of the second problem is k less than that of the first
abbrev pub Saves : Dumping → Dumping → ℕ → Type 0
Saves q r k = (n m : ℕ) → IsLeastLoss q n → IsLeastLoss r m → n ≡ m + k

-- the least losses of the two problems are known, and that of the second is k less
pub record IsSaved (q r : Dumping) (k : ℕ) : Type 0 where
  pub after : ℕ
  pub first : IsLeastLoss q (after + k)
  pub second : IsLeastLoss r after

-- if the largest window saves `most`, a window larger by e, up to the largest, saves the lesser of e and `most`
abbrev pub WiderWindows : Type 0
WiderWindows =
    (q : Dumping) (t e most : ℕ) → 1 ≤ t → t ≤ length q.windows → window q t + e ≤ MAX_BLOCKS
    → IsSaved q (with_window q t MAX_BLOCKS) most
    → Saves q (with_window q t (window q t + e)) (min e most)

-- the worth of a number of the problem, with all least losses that it rests on
pub record IsWorth (q : Dumping) (w : Worth) : Type 0 where
  pub item : IsItem q w.item
  pub now : w.now ≡ number q w.item
  pub next : IsSaved q (with_number q w.item (next_number w.now)) w.next
  pub most : IsSaved q (with_number q w.item MAX_BLOCKS) w.most
  pub without : IsSaved (with_number q w.item (least_number w.item)) q w.without
