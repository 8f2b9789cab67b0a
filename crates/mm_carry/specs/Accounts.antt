-- What became of the packets of a run, store by store: none is lost uncounted, none is invented, none is given twice,
-- and which of them are lost.
use Rattle.std.specs.Prelude.{◌≡◌, ℕ, zero, suc, ◌+◌, ◌-◌, ◌≤◌, List, [], ◌∷◌, ◌++◌, length, flat_map, All, Contains}
use Rattle.std.specs.Prelude.{IsPermutation}
use Rattle.mm_carry.specs.Words.{SpacePacket, Stored, State, Event, Offer}
use Rattle.mm_carry.specs.StepRuns.{IsStepRun}
use Rattle.mm_base.specs.declared.kind.Kind.TheVariants.{Circular, Bounded}
use Rattle.mm_store.specs.Content.{IsRising}
use Rattle.mm_desk.specs.Fates.{packets_of, given, given_up, after, over}
use Rattle.mm_desk.specs.Losses.{LosesNew, LosesOldest, taken_out}
use Rattle.mm_desk.specs.Offers.{asked}

-- the packet of an offer
abbrev pub packet_in : Event → List SpacePacket
packet_in (Offer now packet) = packet ∷ []
packet_in other = []

-- the packets of offers
abbrev pub packets_in : List Event → List SpacePacket
packets_in events = flat_map packet_in events

-- the packets that sources offer
abbrev pub packets_offered : List (List Event) → List SpacePacket
packets_offered offers = flat_map packets_in offers

-- what is so in each of the first steps, one step after another
abbrev pub over_steps : {X : Type 0} → (ℕ → List X) → ℕ → List X
over_steps each zero = []
over_steps each (suc n) = over_steps each n ++ each (suc n)

-- these events are what was asked in a step run, in order
abbrev pub AreAskedIn : List (List Event) → List Stored → State → State → List Event → Type 0
AreAskedIn offers gave s t events =
    (wanted : ℕ) × (run : IsStepRun offers wanted gave s t) × (events ≡ asked (run.recorded ++ run.dumped))

-- events gave these packets, in the order of their times, and took all of them out of the store
pub record HaveLeft (s : State) (es : List Event) (gave : List Stored) : Type 0 where
  pub given_are : All (Contains (over given s es)) gave
  pub out : All (Contains (over taken_out s es)) gave
  pub rising : IsRising gave

-- the events of each step of a run at a store, those of a step run: the states are their replay, what the orders were
-- given is what they gave, and all of it has left the store
pub record IsHistory (steps : ℕ) (offers : ℕ → List (List Event)) (gave : ℕ → List Stored) (states : ℕ → State)
    (events : ℕ → List Event) : Type 0 where
  pub runs : (t : ℕ) → 1 ≤ t → t ≤ steps → AreAskedIn (offers t) (gave t) (states (t - 1)) (states t) (events t)
  pub leads : (t : ℕ) → t ≤ steps → states t ≡ after (states 0) (over_steps events t)
  pub gives : (t : ℕ) → t ≤ steps → over_steps gave t ≡ over given (states 0) (over_steps events t)
  pub gone : HaveLeft (states 0) (over_steps events steps) (over_steps gave steps)

-- a store lost these packets over events: a bounded store lost new packets that found it full, and overwrote none that
-- it held; a circular store lost the packets that it overwrote, each older than all that it holds at the end
pub record HasLost (s : State) (es : List Event) (lost : List SpacePacket) : Type 0 where
  pub are : lost ≡ over given_up s es
  pub bounded : s.store.kind ≡ Bounded → LosesNew s es
  pub circular : s.store.kind ≡ Circular → LosesOldest s es

-- what stood in a store and what was offered to it is what its orders were given, what it holds, and the lost, each
-- packet as often; the lost are as many as its counter says, and what its orders were given has rising times over all
-- steps. The events of the steps say which packets were lost
pub record IsAccounted (steps : ℕ) (offers : ℕ → List (List Event)) (gave : ℕ → List Stored)
    (states : ℕ → State) : Type 0 where
  pub lost : List SpacePacket
  pub packets : IsPermutation (packets_of (states 0).store.content ++ over_steps (λ t. packets_offered (offers t))
      steps)
      (over_steps (λ t. packets_of (gave t)) steps ++ packets_of (states steps).store.content ++ lost)
  pub counted : (states steps).lost ≡ (states 0).lost + length lost
  pub rising : IsRising (over_steps gave steps)
  pub events : ℕ → List Event
  pub history : IsHistory steps offers gave states events
  pub loses : HasLost (states 0) (over_steps events steps) lost
