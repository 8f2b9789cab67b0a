-- What has flowed by a time, in whole units.
use Rattle.std.specs.Prelude.{ℕ, ◌-◌, ◌*◌, ◌/◌, min, max, Bool, true, nat_lt, ◌==◌, if◌then◌else◌, List, filter}
use Rattle.std.specs.Prelude.{Option, Some, None, option_map, slice_index_or, slice_get}
use Rattle.std.specs.Int.{div_ceil}
use Rattle.std.specs.List.{fold, sum_by}
use Rattle.mm_mission.specs.declared.counter.Counter.{Counter}
use Rattle.mm_mission.specs.declared.counter.Counter.TheVariants.{Sent, Come, Packets}
use Rattle.mm_mission.specs.declared.parts.Rate.{Rate}
use Rattle.mm_mission.specs.declared.parts.Span.{Span}
use Rattle.mm_mission.specs.declared.parts.Pass.{Pass}
use Rattle.mm_mission.specs.declared.parts.Observation.{Observation}
use Rattle.mm_mission.specs.declared.parts.Store.{Store}
use Rattle.mm_mission.specs.Mission.{MissionRows}

-- how long a span has lasted at a time
abbrev pub elapsed : Span → ℕ → ℕ
elapsed s t = min t s.end - s.begin

-- ---- the octets of a packet and of a unit

abbrev pub packet_octets : Store → ℕ
packet_octets s = s.packet

abbrev pub unit_octets : Store → ℕ
unit_octets s = s.packet * s.unit

-- whether a store is sent on a channel, or on the link at all
abbrev pub is_on : Option ℕ → Store → Bool
is_on None s = true
is_on (Some c) s = s.channel == c

-- the octets of the largest unit of those stores; 0 where there are none
abbrev pub largest : MissionRows → Option ℕ → ℕ
largest m channel = fold (λ n s. max n (unit_octets s)) 0 (filter (is_on channel) m.stores)

-- as many octets a unit counts there: on a channel without stores as many as on the link, which are at least one
abbrev pub octets_on : MissionRows → Option ℕ → ℕ
octets_on m channel = if largest m channel == 0 then max 1 (largest m None) else largest m channel

-- ---- what is sent

-- how fast units flow: octets, which times a time are divided by this to count units
pub record Pace : Type 0 where
  pub octets : ℕ
  pub divisor : ℕ

-- the pace at a rate of units of that many octets
abbrev pub pace : ℕ → Rate → Pace
pace octets r = record { octets = r.octets; divisor = r.micros * octets }

-- the units that flow at a pace in a time, rounded down
unfoldable pub whole_units : Pace → ℕ → ℕ
whole_units f time = f.octets * time / f.divisor

-- the slower of a pace and of another one, if there is another
abbrev pub slower : Pace → Option Pace → Pace
slower f None = f
slower f (Some g) = if nat_lt (g.octets * f.divisor) (f.octets * g.divisor) then g else f

-- the own rate of a channel in a pass, if it has one
abbrev pub own_rate : Option ℕ → Pass → Option Rate
own_rate None p = None
own_rate (Some c) p = slice_index_or p.channels c None

-- the pace of a pass's link, and that of a channel's own rate
abbrev pub link_pace : MissionRows → Pass → Pace
link_pace m p = pace (octets_on m None) p.rate

abbrev pub own_pace : MissionRows → Option ℕ → Pass → Option Pace
own_pace m channel p = option_map (pace (octets_on m channel)) (own_rate channel p)

-- the pace at which a pass can send: in all, or of a channel
abbrev pub pace_on : MissionRows → Option ℕ → Pass → Pace
pace_on m channel p = slower (link_pace m p) (own_pace m channel p)

-- what a pass can have sent by a time
abbrev pub sent_by : MissionRows → Option ℕ → ℕ → Pass → ℕ
sent_by m channel t p = whole_units (pace_on m channel p) (elapsed p.span t)

-- ---- what comes

abbrev pub is_into : ℕ → Observation → Bool
is_into s o = o.store == s

-- the observations whose packets come into a store
abbrev pub into : MissionRows → ℕ → List Observation
into m s = filter (is_into s) m.observations

-- what has come of an observation by a time, as octets by microseconds
abbrev pub come_by : ℕ → Observation → ℕ
come_by t o = o.octets * elapsed o.span t

-- what has come into a store by a time, exactly
abbrev pub come_octets : MissionRows → ℕ → ℕ → ℕ
come_octets m s t = sum_by (come_by t) (into m s)

-- by this it is divided to count parts of so many octets: units, or packets
abbrev pub come_divisor : (Store → ℕ) → Store → ℕ
come_divisor octets s = s.micros * octets s

-- in such parts, rounded up; 0 where there is no such store
abbrev pub begun : (Store → ℕ) → Option Store → ℕ → ℕ
begun octets None amount = 0
begun octets (Some s) amount = div_ceil amount (come_divisor octets s)

-- ---- both

-- what is counted by a time: what all passes can have sent, or what has come into a store, in units or in packets
unfoldable pub counted : MissionRows → Counter → ℕ → ℕ
counted m (Sent channel) t = sum_by (sent_by m channel t) m.passes
counted m (Come s) t = begun unit_octets (slice_get m.stores s) (come_octets m s t)
counted m (Packets s) t = begun packet_octets (slice_get m.stores s) (come_octets m s t)
