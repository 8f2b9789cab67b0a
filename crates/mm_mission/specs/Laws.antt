-- What windows, limits and arrivals are, in the words of their subjects.
use Rattle.std.specs.Prelude.{◌≡◌, ℕ, ◌+◌, ◌-◌, ◌*◌, ◌<◌, ◌≤◌, List, length, slice_index, Option, Some, None}
use Rattle.std.specs.Prelude.{Contains, All, Bool, nat_lt, unwrap_or, if◌then◌else◌, IsTrue, IfSome}
use Rattle.std.specs.List.{sum_by, range_with_len}
use Rattle.mm_base.specs.declared.limits.TheConstants.{CHANNELS}
use Rattle.mm_problem.specs.Dumping.{Dumping, window, limit, arrivals, start}
use Rattle.mm_plan.specs.Volumes.{left, lost}
use Rattle.mm_mission.specs.declared.counter.Counter.TheVariants.{Sent, Come, Packets}
use Rattle.mm_mission.specs.declared.parts.Span.{Span}
use Rattle.mm_mission.specs.declared.parts.Pass.{Pass}
use Rattle.mm_mission.specs.declared.parts.Store.{Store}
use Rattle.mm_mission.specs.declared.dumps.Dump.{Dump}
use Rattle.mm_mission.specs.Mission.{MissionRows, store_at, IsMission}
use Rattle.mm_mission.specs.Flows.{packet_octets, unit_octets, Pace, link_pace, own_pace, pace_on, come_octets}
use Rattle.mm_mission.specs.Flows.{come_divisor, counted}
use Rattle.mm_mission.specs.Edges.{AreTimes, AreEdges}
use Rattle.mm_mission.specs.Planned.{start_in, growth, is_limited, IsProblemOf}
use Rattle.mm_mission.specs.Packets.{step_in, AreSentBy}
use Rattle.mm_mission.specs.Timeline.{is_in_pass, IsTimeline}

-- ---- a number of units beside an amount that is divided to count them

-- the number is the quotient, rounded down
pub record IsRoundedDown (amount divisor units : ℕ) : Type 0 where
  pub most : units * divisor ≤ amount
  pub least : amount < (units + 1) * divisor

-- the number is the quotient, rounded up
pub record IsRoundedUp (amount divisor units : ℕ) : Type 0 where
  pub least : amount ≤ units * divisor
  pub most : units * divisor < amount + divisor

-- the number differs from the quotient by less than one
pub record IsWithinOne (amount divisor units : ℕ) : Type 0 where
  pub most : units * divisor < amount + divisor
  pub least : amount < (units + 1) * divisor

-- ---- steps

-- the n steps after the i-th lie in a span
pub record LieIn (s : Span) (edges : List ℕ) (i n : ℕ) : Type 0 where
  pub there : i + n < length edges
  pub begin : s.begin ≤ slice_index edges i
  pub end : slice_index edges (i + n) ≤ s.end

-- how long they last
abbrev pub time_of : List ℕ → ℕ → ℕ → ℕ
time_of edges i n = slice_index edges (i + n) - slice_index edges i

-- what they have together
abbrev pub over : (ℕ → ℕ) → ℕ → ℕ → ℕ
over each i n = sum_by each (range_with_len (i + 1) n)

-- ---- laws

-- in each step the window, the arrivals and the limits are what the mission's counts grow by; a channel has limits if
-- and only if it has its own rate in some pass
pub record GrowAt (m : MissionRows) (edges : List ℕ) (q : Dumping) (t : ℕ) : Type 0 where
  pub window : window q t ≡ growth (counted m (Sent None)) edges t
  pub arrivals : (s : ℕ) → s < length m.stores → arrivals q s t ≡ growth (counted m (Come s)) edges t
  pub limits : (c : ℕ) → c < CHANNELS → limit q c t
      ≡ (if is_limited m.passes c then Some (growth (counted m (Sent (Some c))) edges t) else None)

-- so it is in each step
abbrev pub StepsGrow : Type 0
StepsGrow = (m : MissionRows) (edges : List ℕ) (q : Dumping) (t : ℕ) → IsProblemOf m edges q → 1 ≤ t → t < length edges
    → GrowAt m edges q t

-- what a problem lets through in a step: in all, or of a channel that has limits
abbrev pub room : Dumping → Option ℕ → ℕ → ℕ
room q None t = window q t
room q (Some c) t = unwrap_or (limit q c t) 0

-- the channel has limits
abbrev pub HasRoom : MissionRows → Option ℕ → Type 0
HasRoom m None = Unit {0}
HasRoom m (Some c) = (c < CHANNELS) × IsTrue (is_limited m.passes c)

-- over steps that lie in a pass, windows add up to what the link can send in that time, and the limits of a channel to
-- what can be sent on it, but for less than one unit; from the pass's begin on that is rounded down
abbrev pub RoomsAddUp : Type 0
RoomsAddUp = (m : MissionRows) (edges : List ℕ) (q : Dumping) (p : Pass) (channel : Option ℕ) (i n : ℕ)
    → IsMission m → AreTimes m edges → IsProblemOf m edges q → Contains m.passes p → HasRoom m channel
    → LieIn p.span edges i n
    → let f = pace_on m channel p in
    IsWithinOne (f.octets * time_of edges i n) f.divisor (over (room q channel) i n)
    × (slice_index edges i ≡ p.span.begin
    → IsRoundedDown (f.octets * time_of edges i n) f.divisor (over (room q channel) i n))

-- up to the end of each step, the arrivals of a store add up to what is counted as come
abbrev pub ArrivalsAddUp : Type 0
ArrivalsAddUp = (m : MissionRows) (edges : List ℕ) (q : Dumping) (s n : ℕ) → IsMission m → AreTimes m edges
    → IsProblemOf m edges q → s < length m.stores → n < length edges
    → over (arrivals q s) 0 n ≡ counted m (Come s) (slice_index edges n)

-- what has come into a store of all its observations is summed exactly and rounded up once, in units and in packets
abbrev pub ObservationsRise : Type 0
ObservationsRise = (m : MissionRows) (s t : ℕ) → IsMission m → s < length m.stores
    → IsRoundedUp (come_octets m s t) (come_divisor unit_octets (store_at m s)) (counted m (Come s) t)
    × IsRoundedUp (come_octets m s t) (come_divisor packet_octets (store_at m s)) (counted m (Packets s) t)

-- ---- the timeline

-- no store has more to send in a step than its window
abbrev pub AreWithin : MissionRows → List ℕ → Dumping → (ℕ → ℕ → ℕ) → Type 0
AreWithin m edges q x = (s t : ℕ) → s < length m.stores → 1 ≤ t → t < length edges → x s t ≤ window q t

-- each dump of a plan's packets lies in a pass
abbrev pub DumpsLieInPasses : Type 0
DumpsLieInPasses = (m : MissionRows) (edges : List ℕ) (q : Dumping) (x packets : ℕ → ℕ → ℕ) (dumps : List Dump)
    → IsMission m → AreEdges m edges → IsProblemOf m edges q → AreWithin m edges q x → AreSentBy m edges x packets
    → IsTimeline m edges packets dumps
    → All (λ d. IsTrue (is_in_pass m.passes d.span)) dumps

-- in the n steps after the i-th no more is sent than a problem lets through
abbrev pub FitsOver : Dumping → Option ℕ → (ℕ → ℕ) → ℕ → ℕ → Type 0
FitsOver q channel sent i n = (t : ℕ) → i < t → t ≤ i + n → sent t ≤ room q channel t

-- in a time less than one unit more is sent than at a pace, and from the begin of a pass on no more
pub record IsKept (time units : ℕ) (from_begin : Type 0) (f : Pace) : Type 0 where
  pub less : units * f.divisor < f.octets * time + f.divisor
  pub no_more : from_begin → units * f.divisor ≤ f.octets * time

-- over steps that lie in a pass, the pace of its link is kept, and that of a channel's own rate
abbrev pub RatesAreKept : Type 0
RatesAreKept = (m : MissionRows) (edges : List ℕ) (q : Dumping) (p : Pass) (channel : Option ℕ) (sent : ℕ → ℕ) (i n : ℕ)
    → IsMission m → AreTimes m edges → IsProblemOf m edges q → Contains m.passes p → HasRoom m channel
    → LieIn p.span edges i n → FitsOver q channel sent i n
    → let Kept : Pace → Type 0 = IsKept (time_of edges i n) (over sent i n) (slice_index edges i ≡ p.span.begin) in
    Kept (link_pace m p) × IfSome (own_pace m channel p) Kept

-- up to the end of each step, no more is sent of a store than it held and than has arrived
abbrev pub SendsWhatIsThere : List ℕ → Dumping → (ℕ → ℕ → ℕ) → ℕ → Type 0
SendsWhatIsThere edges q x s = (n : ℕ) → n < length edges → over (x s) 0 n ≤ start q s + over (arrivals q s) 0 n

-- by a time in a step this many whole units, or packets, of a store have been sent: what the steps before it sent, and
-- of the step's amount as large a part as of its time
pub record HaveBeenSent (edges : List ℕ) (x : ℕ → ℕ → ℕ) (s t time units : ℕ) : Type 0 where
  pub begin : slice_index edges (t - 1) ≤ time
  pub end : time ≤ slice_index edges t
  pub sent : units * (slice_index edges t - slice_index edges (t - 1))
      ≤ over (x s) 0 (t - 1) * (slice_index edges t - slice_index edges (t - 1))
      + x s t * (time - slice_index edges (t - 1))

-- of a store that is sent in a step, no unit is sent before it has come or is being received
abbrev pub UnitsHaveCome : Type 0
UnitsHaveCome = (m : MissionRows) (edges : List ℕ) (q : Dumping) (x : ℕ → ℕ → ℕ) (s t time units : ℕ) → IsMission m
    → AreEdges m edges → IsProblemOf m edges q → AreWithin m edges q x → SendsWhatIsThere edges q x s
    → s < length m.stores → 1 ≤ t → t < length edges → 0 < x s t → HaveBeenSent edges x s t time units
    → units ≤ start q s + counted m (Come s) time

-- of a store that is sent in a step, no packet is sent before it has come or is being received
abbrev pub PacketsHaveCome : Type 0
PacketsHaveCome = (m : MissionRows) (edges : List ℕ) (q : Dumping) (x packets : ℕ → ℕ → ℕ) (s t time count : ℕ)
    → IsMission m → AreEdges m edges → IsProblemOf m edges q → AreWithin m edges q x → AreSentBy m edges x packets
    → s < length m.stores → 1 ≤ t → t < length edges → 0 < packets s t → HaveBeenSent edges packets s t time count
    → count ≤ (store_at m s).start + counted m (Packets s) time

-- ---- losses in packets

-- of the units that have begun to come as a step ends, the packets that have not come
abbrev pub not_come : MissionRows → List ℕ → ℕ → ℕ → ℕ
not_come m edges s t =
    (store_at m s).unit * counted m (Come s) (slice_index edges t) - counted m (Packets s) (slice_index edges t)

-- whether fewer packets leave a store in a step than the plan's units have
abbrev pub is_short : MissionRows → List ℕ → (ℕ → ℕ → ℕ) → ℕ → ℕ → Bool
is_short m edges x s t = nat_lt (step_in m edges x s t).dumped (x s t * (store_at m s).unit)

-- those packets that come too late for such a step, as far as the plan does not hold their units any more
abbrev pub late : MissionRows → List ℕ → Dumping → (ℕ → ℕ → ℕ) → ℕ → ℕ → ℕ
late m edges q x s t =
    if is_short m edges x s t then not_come m edges s t - (store_at m s).unit * left q x s t else 0

-- what a store holds above the problem's units as the mission begins
abbrev pub above : Store → ℕ
above s = s.start - s.unit * start_in s

abbrev pub lost_in : MissionRows → List ℕ → (ℕ → ℕ → ℕ) → ℕ → ℕ → ℕ
lost_in m edges x s t = (step_in m edges x s t).lost

-- up to the end of each step, no more packets of a store are lost than the units that the plan loses have, what it held
-- above whole units, and the packets that came too late for steps that sent fewer than their units have
abbrev pub LossesInPackets : Type 0
LossesInPackets = (m : MissionRows) (edges : List ℕ) (q : Dumping) (x : ℕ → ℕ → ℕ) (s n : ℕ) → IsMission m
    → AreTimes m edges → IsProblemOf m edges q → s < length m.stores → n < length edges
    → over (lost_in m edges x s) 0 n
    ≤ (store_at m s).unit * over (lost q x s) 0 n + above (store_at m s) + over (late m edges q x s) 0 n

-- both are less than a unit: what a store held above whole units, and what comes too late for one step
abbrev pub LateAreFew : Type 0
LateAreFew = (m : MissionRows) (edges : List ℕ) (q : Dumping) (x : ℕ → ℕ → ℕ) (s t : ℕ) → IsMission m
    → s < length m.stores → (above (store_at m s) < (store_at m s).unit) × (late m edges q x s t < (store_at m s).unit)
