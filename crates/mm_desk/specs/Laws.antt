-- Laws of the store machine, over lists of events and of entries alone.
use Rattle.std.specs.Prelude.{◌≡◌, ◌≢◌, ℕ, ◌<◌, ◌≤◌, ◌^◌, List, [], length, slice_index_or, All}
use Rattle.mm_desk.specs.Types.{Stored, Entry, Event, Offer, Begin, Delete}
use Rattle.mm_desk.specs.Machine.{State, Balances, IsState, step}
use Rattle.mm_desk.specs.Offers.{AreTaken, IsShuffleOfEvents, count_of, Leaves}
use Rattle.mm_desk.specs.Orders.{IsOrderOf, Dumps}
use Rattle.mm_desk.specs.Runs.{IsRun, replay}
use Rattle.mm_desk.specs.Shuffles.{IsShuffle}

-- after every event what was offered is lost, deleted or held
abbrev pub KeepBalance : Type 0
KeepBalance = (s : State) (e : Event) → IsState s → Balances (step s e).1

-- the times of an event fit 64 bits
abbrev pub HasTimes : Event → Type 0
HasTimes (Offer now packet) = now < 2 ^ 64
HasTimes (Begin from to) = (from < 2 ^ 64) × (to < 2 ^ 64)
HasTimes (Delete limit) = limit < 2 ^ 64
HasTimes other = Unit {0}

-- an event whose times fit leaves a state
abbrev pub KeepStates : Type 0
KeepStates = (s : State) (e : Event) → IsState s → HasTimes e → IsState (step s e).1

-- a log whose times fit leaves a state
abbrev pub ReplaysKeepStates : Type 0
ReplaysKeepStates = (s : State) (log : List Entry) → IsState s → All (λ e. HasTimes e.event) log
    → IsState (replay s log)

-- offers that are not refused leave and lose the same in any order: only their number matters
abbrev pub OffersLeave : Type 0
OffersLeave = (s t : State) (lists : List (List Event)) (log : List Entry)
    → length s.store.content ≤ s.store.size → 1 ≤ s.store.size
    → IsRun s log t → IsShuffleOfEvents lists log → AreTaken log → Leaves s t (count_of lists)

-- what two shuffles of the same offers leave and lose is equal, where none is refused
abbrev pub ShufflesLoseAlike : Type 0
ShufflesLoseAlike = (s t u : State) (lists : List (List Event)) (first second : List Entry)
    → length s.store.content ≤ s.store.size → 1 ≤ s.store.size
    → IsRun s first t → IsShuffleOfEvents lists first → AreTaken first
    → IsRun s second u → IsShuffleOfEvents lists second → AreTaken second
    → (length t.store.content ≡ length u.store.content) × (t.lost ≡ u.lost)

-- a whole order dumps the oldest packets
abbrev pub OrdersDumpTheOldest : Type 0
OrdersDumpTheOldest = (s t : State) (seat wanted : ℕ) (gave : List Stored) (calls : List Entry)
    → IsState s → IsOrderOf seat wanted gave calls → IsRun s calls t → Dumps s t wanted gave

-- where one seat alone made calls, its list is the log
abbrev pub LoneSeatsAreLogs : Type 0
LoneSeatsAreLogs = (lists : List (List Entry)) (log : List Entry) (seat : ℕ) → IsShuffle lists log
    → ((other : ℕ) → other < length lists → other ≢ seat → slice_index_or lists other [] ≡ [])
    → log ≡ slice_index_or lists seat []
