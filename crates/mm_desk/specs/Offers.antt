-- Offers through the seats of a desk: what any order of them leaves and loses.
use Rattle.std.specs.Prelude.{◌≡◌, ℕ, ◌+◌, ◌-◌, ◌<◌, min, List, [], length, map, sum_by, slice_index_or, All, Ok}
use Rattle.mm_desk.specs.Types.{Entry, Event, Offer, Reply}
use Rattle.mm_desk.specs.declared.reply.Reply.TheVariants as reply
use Rattle.mm_desk.specs.Machine.{State}
use Rattle.mm_desk.specs.Shuffles.{AreBelow, part}

-- a packet was offered, and was not refused
abbrev pub IsTaken : Event → Reply → Type 0
IsTaken (Offer now packet) (reply.Offered (Ok offered)) = Unit {0}
IsTaken event other = ⊥

-- each call of a log is an offer that was not refused
abbrev pub AreTaken : List Entry → Type 0
AreTaken log = All (λ e. IsTaken e.event e.reply) log

-- what was asked in a log
abbrev pub asked : List Entry → List Event
asked log = map (λ e. e.event) log

-- the events of a log are a shuffle of lists of events, one for each seat
pub record IsShuffleOfEvents (lists : List (List Event)) (log : List Entry) : Type 0 where
  pub below : AreBelow (length lists) log
  pub parts : (seat : ℕ) → seat < length lists → asked (part seat log) ≡ slice_index_or lists seat []

-- how many events lists have
abbrev pub count_of : List (List Event) → ℕ
count_of lists = sum_by (λ events. length events) lists

-- this many offers leave a full store, or one with that many packets more, and lose the rest; else only the counter of
-- offers changes, and which packets and times are held
pub record Leaves (s t : State) (n : ℕ) : Type 0 where
  pub volume : length t.store.content ≡ min (length s.store.content + n) s.store.size
  pub lost : t.lost ≡ s.lost + (length s.store.content + n - min (length s.store.content + n) s.store.size)
  pub kind : t.store.kind ≡ s.store.kind
  pub size : t.store.size ≡ s.store.size
  pub storage : t.storage ≡ s.storage
  pub retrieval : t.retrieval ≡ s.retrieval
  pub offered : t.offered ≡ s.offered + n
  pub deleted : t.deleted ≡ s.deleted
