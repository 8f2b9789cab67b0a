-- The first element with which a list stops being good.
use Rattle.std.specs.Prelude.{ℕ, ◌-◌, ◌≤◌, List, length, take}

-- the first k elements are not good together, and those before the k-th are; k counts from 1
pub record IsFirstBad {X : Type 0} (AreGood : List X → Type 0) (xs : List X) (k : ℕ) : Type 0 where
  pub first : 1 ≤ k
  pub last : k ≤ length xs
  pub before : AreGood (take (k - 1) xs)
  pub here : ¬ AreGood (take k xs)
