-- The queue of the orders' numbers: which are queued, and which each pass has taken.
use Rattle.std.specs.Prelude.{◌≡◌, ℕ, ◌+◌, ◌-◌, ◌<◌, ◌≤◌, List, [], ◌∷◌, ◌++◌, length, sum_by, All}
use Rattle.std.specs.List.{range_with_len}
use Rattle.mm_dump.specs.declared.queue.QueueView.{QueueView}

-- a pass with these parts of all, which knows how many numbers were pushed, and which has taken these
abbrev pub queue_view : ℕ → ℕ → List ℕ → QueueView
queue_view parts pushed taken = record { parts = parts; pushed = pushed; taken = taken }

-- a pass with a part knows how many numbers were pushed, and one without a part has taken none
pub record Knows (pushed : ℕ) (v : QueueView) : Type 0 where
  pub some_part : 0 < v.parts → v.pushed ≡ pushed
  pub no_part : v.parts ≡ 0 → v.taken ≡ []

-- the numbers below some number were taken, each by one pass: they are so, however numbers are weighed; those from it
-- to the last one pushed are queued, in order
pub record AreTakenOnce (items : List ℕ) (views : List QueueView) : Type 0 where
  pub pushed : ℕ
  pub next : ℕ
  pub within : next ≤ pushed
  pub queued : items ≡ range_with_len next (pushed - next)
  pub parts : sum_by (λ v. v.parts) views ≡ 1024
  pub each : (weight : ℕ → ℕ) → sum_by weight (range_with_len 0 next) ≡ sum_by (λ v. sum_by weight v.taken) views
  pub known : All (Knows pushed) views

-- a number is taken that was pushed, by a pass that had taken fewer numbers than were pushed
pub record TakesNext (v : QueueView) (number : ℕ) (w : QueueView) : Type 0 where
  pub within : number < v.pushed
  pub taken : w ≡ queue_view v.parts v.pushed (v.taken ++ number ∷ [])
  pub few : length v.taken < v.pushed

-- what a pass with a part knows of the numbers queued: they are no more than were pushed. The pass with all parts knows
-- that it took the others, which are the numbers below some number, each once
pub record Tells (v : QueueView) (items : List ℕ) : Type 0 where
  pub room : 0 < v.parts → length items ≤ v.pushed
  pub counted : v.parts ≡ 1024 → length items + length v.taken ≡ v.pushed
  pub next : ℕ
  pub each : v.parts ≡ 1024 → (weight : ℕ → ℕ) → sum_by weight (range_with_len 0 next) ≡ sum_by weight v.taken
