-- What a packet store holds, and what each call does to it, over one list of packets with their times.
use Rattle.std.specs.Prelude.{ℕ, Bool, ◌+◌, ◌-◌, ◌<◌, ◌≤◌, ◌^◌, ◌==◌, ◌&&◌, nat_lt, nat_le, max, if◌then◌else◌, List}
use Rattle.std.specs.Prelude.{[], ◌∷◌, ◌++◌, length, map, filter, find, count_by, slice_index, All, AllPairs, Option}
use Rattle.std.specs.Prelude.{option_map}
use Rattle.std.specs.Borrow.{Bor}
use Rattle.mm_base.specs.declared.limits.TheConstants.{MAX_BLOCKS}
use Rattle.mm_base.specs.declared.kind.Kind.{Kind}
use Rattle.mm_base.specs.declared.kind.Kind.TheVariants.{Circular, Bounded}
use Rattle.mm_packet.specs.Packet.{SpacePacket}
use Rattle.mm_store.specs.declared.stored.Stored.{Stored}
use Rattle.mm_store.specs.declared.put.Put.{Put}
use Rattle.mm_store.specs.declared.put.Put.TheVariants.{Kept, KeptOver, Lost, ClockEnd}

-- a packet store: its kind, its size in blocks, the last storage time that it gave, and what it holds, the oldest first
pub record Store : Type 0 where
  pub kind : Kind
  pub size : ℕ
  pub last : ℕ
  pub content : List Stored

-- storage times rise strictly
abbrev pub IsRising : List Stored → Type 0
IsRising content = AllPairs (λ p q. p.time < q.time) content

-- times rise strictly, are at least 1 and at most the last time, and no more is held than there are blocks
pub record IsStore (s : Store) : Type 0 where
  pub rising : IsRising s.content
  pub from_one : All (λ p. 1 ≤ p.time) s.content
  pub up_to_last : All (λ p. p.time ≤ s.last) s.content
  pub within : length s.content ≤ s.size
  pub has_room : 1 ≤ s.size
  pub in_limits : s.size ≤ MAX_BLOCKS
  pub last_fits : s.last < 2 ^ 64

-- the greatest storage time
abbrev pub clock_end : ℕ
clock_end = 2 ^ 64 - 1

-- a new store of this kind and size
abbrev pub empty_store : Kind → ℕ → Store
empty_store kind size = record { kind = kind; size = size; last = 0; content = [] }

-- the store with this content, whose newest packet has the last time
abbrev pub with_newest : Store → List Stored → Stored → Store
with_newest s older newest = record s { last = newest.time; content = older ++ newest ∷ [] }

-- a put into a full store: a circular one gives up its oldest packet, a bounded one hands the new one back
abbrev pub put_full : Kind → List Stored → Store → Stored → Put × Store
put_full Circular (oldest ∷ later) s new = (KeptOver new.time oldest.packet, with_newest s later new)
put_full Circular [] s new = (Lost new.packet, s)
put_full Bounded held s new = (Lost new.packet, s)

-- a put before the end of the clock
abbrev pub put_timed : Store → Stored → Put × Store
put_timed s new =
    if nat_lt (length s.content) s.size
    then (Kept new.time, with_newest s s.content new)
    else put_full s.kind s.content s new

-- what a put at `now` answers, and the store that it leaves
abbrev pub put : Store → ℕ → SpacePacket → Put × Store
put s now packet =
    if s.last == clock_end
    then (ClockEnd packet, s)
    else put_timed s (record { time = max now (s.last + 1); packet = packet })

-- the time is in the range, both ends included, and later than `after`
abbrev pub is_in : ℕ → ℕ → ℕ → Stored → Bool
is_in from to after p = nat_le from p.time && nat_le p.time to && nat_lt after p.time

-- the oldest packet in the range that is newer than `after`
abbrev pub first_in : ℕ → ℕ → ℕ → List Stored → Option Stored
first_in from to after content = find (is_in from to after) content

-- what is left after a deletion up to this time
abbrev pub kept_after : ℕ → List Stored → List Stored
kept_after limit content = filter (λ p. nat_lt limit p.time) content

-- how many packets a deletion up to this time removes
abbrev pub count_up_to : ℕ → List Stored → ℕ
count_up_to limit content = count_by (λ p. nat_le p.time limit) content

-- the store after a deletion up to this time
abbrev pub delete_up_to : Store → ℕ → Store
delete_up_to s limit = record s { content = kept_after limit s.content }

-- the storage times, the oldest first
abbrev pub times_of : List Stored → List ℕ
times_of content = map (λ p. p.time) content

-- the oldest storage time held, 0 where there is none
abbrev pub oldest : List Stored → ℕ
oldest content = slice_index (times_of content) 0

-- the newest storage time held, 0 where there is none
abbrev pub newest : List Stored → ℕ
newest content = slice_index (times_of content) (length content - 1)

-- what a lent packet and its time show
abbrev pub shown : Option (ℕ × Bor SpacePacket) → Option Stored
shown lent = option_map (λ p. record { time = p.0; packet = p.1.now }) lent
