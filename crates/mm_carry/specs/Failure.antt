-- What each link did in a step that a failed link halted.
use Rattle.std.specs.Prelude.{◌≡◌, ◌⊎◌, ℕ, ◌+◌, ◌<◌, List, [], ◌∷◌, ◌++◌, length, map, slice_index_or, All, Some, None}
use Rattle.mm_carry.specs.Words.{Stored, State, opening_at, states_of, RecordingContext, Supply, Course, IsWhole}
use Rattle.mm_carry.specs.Words.{IsBroken, sent_by, AllSettled, Sent, Order, Held, Records}
use Rattle.mm_dump.specs.declared.order.OrderBroken.TheVariants.{LinkFailed}
use Rattle.mm_carry.specs.RunState.{RunState}

-- a link carried out whole orders of the stores at these places, and none of its sends failed
pub record NoneBroke (course : ℕ → Course) (places : List ℕ) (before after : ℕ) : Type 0 where
  pub whole : All (λ k. IsWhole (course k)) places
  pub failures : after ≡ before

-- the last of a link's orders broke at the one send that failed, and those before it are whole. The store of that order
-- is as it was before the order, and holds what the order gave as its oldest packets, those that were sent and the one
-- that was not
pub record LastBroke (course : ℕ → Course) (places : List ℕ) (stores_before stores_after : List State)
    (before after : ℕ) : Type 0 where
  pub early : List ℕ
  pub last : ℕ
  pub are : places ≡ early ++ last ∷ []
  pub whole : All (λ k. IsWhole (course k)) early
  pub broke : IsBroken LinkFailed (course last)
  pub of : (course last).order.place ≡ last
  pub failures : after ≡ before + 1
  pub same : opening_at stores_after last ≡ opening_at stores_before last
  pub newer : List Stored
  pub oldest : (opening_at stores_after last).store.content ≡ ((course last).sent ++ (course last).unsent) ++ newer

-- a link carried out the orders of the stores at these places: its list grew by what they sent, one after another, and
-- one more of its sends failed exactly where the last order broke
pub record LinkCarried (ids : List (List ℕ)) (course : ℕ → Course) (places : List ℕ)
    (stores_before stores_after : List State) (old new : List Sent) (before after : ℕ) : Type 0 where
  pub grew : new ≡ old ++ sent_by ids (map course places)
  pub how : NoneBroke course places before after ⊎ LastBroke course places stores_before stores_after before after

-- the dump of a step was halted by a failed link: what each link carried out, of which some link's last order broke
pub record LinksFailed {L : Type 0} (sent : L → List Sent) (failed : L → ℕ) (ids : List (List ℕ)) (orders : List Order)
    (before after : List State) (old new : List L) : Type 0 where
  pub settled : AllSettled sent failed ids orders (Some LinkFailed) before after old new
  pub many : length settled.places ≡ length old
  pub links : (l : ℕ) → l < length old → LinkCarried ids settled.course (slice_index_or settled.places l []) before
      after
      (slice_index_or (map sent old) l []) (slice_index_or (map sent new) l []) (slice_index_or (map failed old) l 0)
      (slice_index_or (map failed new) l 0)
  pub some : (l : ℕ) × (l < length old)
      × LastBroke settled.course (slice_index_or settled.places l []) before after (slice_index_or (map failed old) l 0)
      (slice_index_or (map failed new) l 0)

-- a step that a failed link halted: all that came is recorded, nothing of it is left in the sources, and this is what
-- the links carried out
pub record FailedLink {L : Type 0} (sent : L → List Sent) (failed : L → ℕ) (e : RecordingContext) (orders : List Order)
    (before after : RunState Supply L) : Type 0 where
  pub mid : List Held
  pub recorded : Records e before.stores mid None before.sources after.sources
  pub links : LinksFailed sent failed e.ids orders (states_of mid) (states_of after.stores) before.links after.links
