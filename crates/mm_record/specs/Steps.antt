-- A step of recorders: what its stores and its sources are afterwards.
use Rattle.std.specs.Prelude.{◌≡◌, ◌≢◌, ◌⊎◌, ℕ, ◌+◌, ◌<◌, ◌≤◌, ◌^◌, true, List, [], ◌∷◌, ◌++◌, length, map, All, Any}
use Rattle.std.specs.Prelude.{Option, Some, None, IfNone, IfSome, Err}
use Rattle.mm_record.specs.Words.{SpacePacket, Entry, Event, Offer, Fault, Held, State, IsState, AreTaken}
use Rattle.mm_record.specs.Words.{IsShuffleOfEvents, IsRun, opening_at, states_of, labels_of}
use Rattle.mm_desk.specs.declared.fault.Fault.TheVariants.{NoMemory}
use Rattle.mm_desk.specs.declared.reply.Reply.{Reply}
use Rattle.mm_record.specs.Supplies.{Supply}
use Rattle.mm_record.specs.Recorded.{RecordingContext, offers}
use Rattle.mm_desk.specs.declared.reply.Reply.TheVariants as reply

-- what sources still give in a step
abbrev pub given_in : ℕ → List Supply → List (List SpacePacket)
given_in step sources = map (λ s. s step) sources

-- a legal log leads a store from the first state to the second; replies left aside, it is a shuffle of these offers
pub record HasLegalOffers (lists : List (List Event)) (s t : State) : Type 0 where
  pub log : List Entry
  pub run : IsRun s log t
  pub shuffle : IsShuffleOfEvents lists log

-- a store has recorded what the sources gave: all offers were made, and none was refused
pub record HasRecorded (e : RecordingContext) (gave : List (List SpacePacket)) (k : ℕ) (s t : State) : Type 0 where
  pub legal : HasLegalOffers (map (offers e k) gave) s t
  pub taken : AreTaken legal.log

-- each store has recorded what the sources gave
abbrev pub AllRecorded : RecordingContext → List (List SpacePacket) → List State → List State → Type 0
AllRecorded e gave before after =
    (k : ℕ) → k < length after → HasRecorded e gave k (opening_at before k) (opening_at after k)

-- the run of one recorder: what its source gave, what it offered to the store at each index, and why it stopped early
pub record RecorderRun : Type 0 where
  pub gave : List SpacePacket
  pub offered : ℕ → List Event
  pub broken : Option Fault

-- all of the first events were asked, and then the first of the others, perhaps none and perhaps all
pub record OfferedInPart (all more asks : List Event) : Type 0 where
  pub made : List Event
  pub rest : List Event
  pub are : more ≡ made ++ rest
  pub asks_are : asks ≡ all ++ made

-- each store was made all its offers of the packets before the last one, and the first of its offers of the last one,
-- perhaps none and perhaps all
pub record StoppedEarly (e : RecordingContext) (gave : List SpacePacket) (offered : ℕ → List Event) : Type 0 where
  pub before : List SpacePacket
  pub last : SpacePacket
  pub are : gave ≡ before ++ last ∷ []
  pub began : (k : ℕ) → k < length e.ids → OfferedInPart (offers e k before) (offers e k (last ∷ [])) (offered k)

-- a recorder had this run, and its source is now as the second: the source keeps what it did not give, and its other
-- steps. If the recorder did not stop early, nothing is left, and all offers were made
pub record IsRecorderRun (e : RecordingContext) (before after : Supply) (run : RecorderRun) : Type 0 where
  pub order : before e.step ≡ run.gave ++ after e.step
  pub others : (t : ℕ) → t ≢ e.step → after t ≡ before t
  pub whole : IfNone run.broken
      ((after e.step ≡ []) × ((k : ℕ) → k < length e.ids → run.offered k ≡ offers e k run.gave))
  pub partly : IfSome run.broken (λ fault. StoppedEarly e run.gave run.offered)

-- the recorder of each source had its run
unfoldable pub AreRecorderRuns : RecordingContext → List Supply → List Supply → List RecorderRun → Type 0
AreRecorderRuns e [] [] [] = Unit {0}
AreRecorderRuns e (s ∷ ss) (t ∷ ts) (run ∷ runs) = IsRecorderRun e s t run × AreRecorderRuns e ss ts runs
AreRecorderRuns e ss ts runs = ⊥

-- a legal log, which is a shuffle of what the recorders offered to it, leads each store to its state now
abbrev pub AllHaveLegalOffers : List RecorderRun → List State → List State → Type 0
AllHaveLegalOffers runs before after =
    (k : ℕ) → k < length after
    → HasLegalOffers (map (λ run. run.offered k) runs) (opening_at before k) (opening_at after k)

-- the answer to an offer is a refusal with this fault
abbrev pub IsRefusedWith : Fault → Event → Reply → Type 0
IsRefusedWith fault (Offer now packet) (reply.Offered (Err back)) = back.fault ≡ fault
IsRefusedWith fault event other = ⊥

-- a store refused an offer of the recorders with this fault: the refusal is in its log
pub record StoreRefused (runs : List RecorderRun) (before after : List State) (fault : Fault) : Type 0 where
  pub place : ℕ
  pub within : place < length after
  pub legal : HasLegalOffers (map (λ run. run.offered place) runs) (opening_at before place) (opening_at after place)
  pub refused : Any (λ e. IsRefusedWith fault e.event e.reply) legal.log

-- the worse of two reasons why recorders stopped early: out of memory only if neither is another
abbrev pub worse_of : Option Fault → Option Fault → Option Fault
worse_of None second = second
worse_of (Some NoMemory) None = Some NoMemory
worse_of (Some NoMemory) (Some fault) = Some fault
worse_of (Some fault) second = Some fault

-- why recorders stopped early, if some did: the worst of their reasons
abbrev pub worst_of : List (Option Fault) → Option Fault
worst_of [] = None
worst_of (reason ∷ reasons) = worse_of reason (worst_of reasons)

-- the latest moment, the latest last storage time and the greatest number of packets offered with which a store surely
-- takes what comes in a step
abbrev pub latest : ℕ
latest = 2 ^ 63 + 2 ^ 62

-- a store surely takes what comes in a step: storage is on, and clock and count are far from their ends
pub record IsOpen (s : State) : Type 0 where
  pub storage : s.storage ≡ true
  pub last : s.store.last ≤ latest
  pub offered : s.offered ≤ latest

-- each source gives at most 65,535 packets in a step
abbrev pub AreFew : ℕ → List Supply → Type 0
AreFew step sources = All (λ s. length (s step) ≤ 65535) sources

-- each store surely takes what the sources give in this step
pub record TakesAll (e : RecordingContext) (stores : List Held) (sources : List Supply) : Type 0 where
  pub moment : e.now ≤ latest
  pub stores_are : All (λ h. IsOpen h.state) stores
  pub few : AreFew e.step sources

-- each source gives at most 65,535 packets in the step, and no store was offered more than 2^63 packets before
pub record IsWithinLimits (step : ℕ) (stores : List Held) (sources : List Supply) : Type 0 where
  pub few : AreFew step sources
  pub offered : All (λ h. h.state.offered ≤ 2 ^ 63) stores

-- what a step of recorders leaves of its stores, and of what its sources give, and why recorders stopped early
pub record Records (e : RecordingContext) (before after : List Held) (why : Option Fault)
    (sources left : List Supply) : Type 0 where
  pub labels : labels_of after ≡ labels_of before
  pub sound : All (λ h. IsState h.state) after
  pub many : length left ≡ length sources
  -- in any case
  pub runs : List RecorderRun
  pub are_runs : AreRecorderRuns e sources left runs
  pub why_is : why ≡ worst_of (map (λ run. run.broken) runs)
  pub reason : IfSome why (λ fault. (fault ≡ NoMemory) ⊎ StoreRefused runs (states_of before) (states_of after) fault)
  pub logs : AllHaveLegalOffers runs (states_of before) (states_of after)
  pub others : (t : ℕ) → t ≢ e.step → given_in t left ≡ given_in t sources
  -- if no recorder stopped early
  pub recorded : IfNone why (AllRecorded e (given_in e.step sources) (states_of before) (states_of after))
  pub nothing_left : IfNone why (All (λ s. s e.step ≡ []) left)
  -- if each store surely takes what comes, only out of memory is a reason
  pub none_refused : TakesAll e before sources → IfSome why (λ fault. fault ≡ NoMemory)
