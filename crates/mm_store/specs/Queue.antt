-- What a store over a queue of packets is. No public clause cites this module.
use Rattle.std.specs.Prelude.{ℕ, ◌<◌, ◌≤◌, Bool, false, nat_le, List, [], ◌∷◌, length, take, drop, All}
use Rattle.circular_buffer.specs.Buffer.{Buffer}
use Rattle.mm_base.specs.declared.kind.Kind.{Kind}
use Rattle.mm_store.specs.declared.stored.Stored.{Stored}
use Rattle.mm_store.specs.Content.{Store}

-- the oldest packet's time is at most the limit
abbrev pub begins_by : ℕ → List Stored → Bool
begins_by limit [] = false
begins_by limit (oldest ∷ later) = nat_le oldest.time limit

-- the store of this kind and last time over a queue
abbrev pub store_over : Kind → Buffer Stored → ℕ → Store
store_over kind held last = record { kind = kind; size = held.capacity; last = last; content = held.items }

-- the packets before this place have times of at most `passed`, and those from it on have later ones
pub record IsPlaceAfter (passed place : ℕ) (held : List Stored) : Type 0 where
  pub within : place ≤ length held
  pub before : All (λ p. p.time ≤ passed) (take place held)
  pub from : All (λ p. passed < p.time) (drop place held)
