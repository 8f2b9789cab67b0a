-- Draws from a pass window, of one block each, by the place of the store whose order draws.
use Rattle.std.specs.Prelude.{◌≡◌, ℕ, ◌+◌, ◌<◌, ◌==◌, List, [], ◌∷◌, length, count_by, All}
use Rattle.mm_store.specs.declared.stored.Stored.{Stored}

-- draws of these stores' orders, in some order: one for each packet that an order was given
pub record AreDrawsOf (stores : ℕ) (gave : ℕ → List Stored) (draws : List ℕ) : Type 0 where
  pub known : All (λ s. s < stores) draws
  pub one_each : (s : ℕ) → s < stores → count_by (λ d. d == s) draws ≡ length (gave s)

-- each draw finds a block left, where this many of the window are drawn already
abbrev pub MeetNoRefusal : ℕ → ℕ → List ℕ → Type 0
MeetNoRefusal window drawn [] = Unit {0}
MeetNoRefusal window drawn (draw ∷ draws) = (drawn < window) × MeetNoRefusal window (drawn + 1) draws
