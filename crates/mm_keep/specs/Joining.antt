-- The steps of a plan up to a step, and a plan for the steps after it.
use Rattle.std.specs.Prelude.{◌≡◌, ℕ, ◌+◌, ◌<◌, ◌≤◌, length}
use Rattle.mm_problem.specs.Dumping.{Dumping}
use Rattle.mm_plan.specs.Table.{Table, amount, HasShape}
use Rattle.mm_plan.specs.Volumes.{Amounts}
use Rattle.mm_rest.specs.Laws.{SameUntil, joined}

-- a plan of the problem, and one with its stores for the steps after a step
pub record AreParts (q : Dumping) (n : ℕ) (x z : Table) : Type 0 where
  pub plan : HasShape q x
  pub stores : z.stores ≡ length q.rows
  pub steps : n + z.steps ≡ length q.windows

-- the amounts of both, joined
abbrev pub joined_amounts : ℕ → Table → Table → Amounts
joined_amounts n x z = joined n (amount x) (amount z)

-- in each step of the problem the amounts are the joined ones
abbrev pub AreJoined : Dumping → ℕ → Table → Table → Amounts → Type 0
AreJoined q n x z y = SameUntil q (length q.windows) (joined_amounts n x z) y

-- the amounts of all earlier steps, and of the earlier stores in this step, are the joined ones
pub record AreJoinedTo (q : Dumping) (n : ℕ) (x z : Table) (y : Amounts) (t k : ℕ) : Type 0 where
  pub earlier : (s u : ℕ) → s < length q.rows → 1 ≤ u → u < t → y s u ≡ joined_amounts n x z s u
  pub here : (s : ℕ) → s < k → y s t ≡ joined_amounts n x z s t
