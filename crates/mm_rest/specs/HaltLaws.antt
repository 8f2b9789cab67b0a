-- What the problem that is left of a halted step says of plans that begin as the run did.
use Rattle.std.specs.Prelude.{◌≡◌, ◌≢◌, ℕ, ◌+◌, ◌-◌, ◌<◌, ◌≤◌, nat_le, if◌then◌else◌, length, map, Some}
use Rattle.std.specs.List.{sum_by}
use Rattle.mm_problem.specs.Dumping.{Dumping, IsDumping, IsFlyable, limit, stores, stores_of, window}
use Rattle.mm_plan.specs.Fit.{FitsAt, FitsBefore, in_step}
use Rattle.mm_plan.specs.Least.{IsLeast}
use Rattle.mm_plan.specs.Volumes.{Amounts, loss}
use Rattle.mm_rest.specs.Halts.{broken_spent, is_broken, rest_of_halt, spent_by}
use Rattle.mm_rest.specs.Laws.{loss_until}
use Rattle.mm_rest.specs.Rests.{held_after}
use Rattle.mm_rest.specs.declared.halt.HaltedStep.{HaltedStep}

-- the run dumped these amounts up to the step in which it was halted, and that is what the stores hold then
pub record IsHaltOf (q : Dumping) (x : Amounts) (n : ℕ) (halted : HaltedStep) : Type 0 where
  pub flyable : IsFlyable q
  pub first : 1 ≤ n
  pub last : n ≤ length q.windows
  pub held : halted.held.items ≡ held_after q x n
  pub dumped : halted.dumped.items ≡ map (λ s. x s n) (stores q)

-- what the run dumped up to the halted step, and from that step on, which may go on, what a plan for the rest dumps
abbrev pub resumed : ℕ → Amounts → Amounts → Amounts
resumed n x z s t = (if nat_le t n then x s t else 0) + (if nat_le n t then z s (t + 1 - n) else 0)

-- what such a plan loses is what the run lost up to the halted step, and what the plan for the rest loses
abbrev pub HaltsAddUp : Type 0
HaltsAddUp = (q : Dumping) (x z : Amounts) (n : ℕ) (halted : HaltedStep) → IsHaltOf q x n halted
    → loss q (resumed n x z) ≡ loss_until n q x + loss (rest_of_halt q n halted) z

-- the plan fits, also if in the halted step the orders that broke spend what they spent, of the window and of the
-- limits of their channels
pub record FitsHalt (q : Dumping) (n : ℕ) (halted : HaltedStep) (y : Amounts) : Type 0 where
  pub others : (t : ℕ) → 1 ≤ t → t ≤ length q.windows → t ≢ n → FitsAt q y t
  pub windowed : sum_by (in_step y n) (stores q) + broken_spent halted ≤ window q n
  pub limited : (c b : ℕ) → limit q c n ≡ Some b → sum_by (in_step y n) (stores_of q c)
      + (if is_broken q halted c then broken_spent halted else 0) ≤ b

-- it dumps what the run dumped before the halted step, and as much or more in it
pub record GoesOn (q : Dumping) (n : ℕ) (x y : Amounts) : Type 0 where
  pub before : (s t : ℕ) → s < length q.rows → 1 ≤ t → t < n → y s t ≡ x s t
  pub here : (s : ℕ) → s < length q.rows → x s n ≤ y s n

-- the run fitted up to the halted step, with what the orders that broke spent
pub record FitsUntilHalt (q : Dumping) (x : Amounts) (n : ℕ) (halted : HaltedStep) : Type 0 where
  pub before : FitsBefore q x n
  pub dumped : sum_by (in_step x n) (stores q) ≤ halted.spent
  pub windowed : halted.spent ≤ window q n
  pub limited : (c b : ℕ) → limit q c n ≡ Some b → spent_by q halted c ≤ b

-- of the plans that go on from the halt and fit, also with what was spent in vain, it loses fewest
pub record IsLeastFromHalt (q : Dumping) (x : Amounts) (n : ℕ) (halted : HaltedStep) (y : Amounts) : Type 0 where
  pub fits : FitsHalt q n halted y
  pub goes_on : GoesOn q n x y
  pub least : (other : Amounts) → FitsHalt q n halted other → GoesOn q n x other → loss q y ≤ loss q other

-- a least plan for what is left of a halted step, added to what the run dumped, is such a plan
abbrev pub HaltsPlanAnew : Type 0
HaltsPlanAnew = (q : Dumping) (x z : Amounts) (n : ℕ) (halted : HaltedStep) → IsDumping q → IsHaltOf q x n halted
    → FitsUntilHalt q x n halted → IsLeast (rest_of_halt q n halted) z
    → IsLeastFromHalt q x n halted (resumed n x z)
