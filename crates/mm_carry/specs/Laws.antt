-- Laws of whole runs.
use Rattle.std.specs.Prelude.{◌≡◌, ℕ, ◌+◌, ◌-◌, ◌<◌, ◌≤◌, ◌^◌, List, length}
use Rattle.std.specs.List.{sum_by}
use Rattle.mm_carry.specs.Words.{Dumping, IsFlyable, arrivals, window, stores, FitsAt, Amounts, loss, Stored, State}
use Rattle.mm_carry.specs.Words.{IsState, AreTaken, IsShuffleOfEvents, count_of, IsRun, Entry, Event, Held, IsDumpOf}
use Rattle.mm_carry.specs.StepRuns.{IsStepRun, AreTimed, AreBy, KeepsStore}
use Rattle.mm_carry.specs.Accounts.{IsAccounted}
use Rattle.mm_carry.specs.AsPlanned.{AtEach, IsReady, AsPlanned}
use Rattle.mm_carry.specs.Draws.{AreDrawsOf, MeetNoRefusal}
use Rattle.mm_carry.specs.RunInput.{RunInput}
use Rattle.mm_carry.specs.Steps.{AreStepRuns, sent_amounts}

-- a run of a plan over its first steps: the stores begin ready, in each step a step run leads each store from the state
-- that the step before left to the next, and what comes in the problem is what is offered
pub record IsRunOf (q : Dumping) (x : Amounts) (steps : ℕ) (offers : ℕ → ℕ → List (List Event))
    (gave : ℕ → ℕ → List Stored) (states : ℕ → ℕ → State) : Type 0 where
  pub flyable : IsFlyable q
  pub ready : (s : ℕ) → s < length q.rows → IsReady q s (states s 0)
  pub timed : AtEach (length q.rows) steps (λ s t. AreTimed (offers s t))
  pub runs : AtEach (length q.rows) steps (λ s t. IsStepRun (offers s t) (x s t) (gave s t) (states s (t - 1))
      (states s t))
  pub came : AtEach (length q.rows) steps (λ s t. arrivals q s t ≡ count_of (offers s t))

-- offers that a store takes, and then a dump, make a step run
abbrev pub HalvesMakeStepRuns : Type 0
HalvesMakeStepRuns = (offers : List (List Event)) (wanted : ℕ) (gave : List Stored) (recorded dumped : List Entry)
    (s mid t : State)
    → IsRun s recorded mid → IsShuffleOfEvents offers recorded → AreTaken recorded → IsRun mid dumped t
    → IsDumpOf wanted gave dumped
    → IsStepRun offers wanted gave s t

-- a step run whose offers are made by a moment that fits keeps a sound store sound and ready
abbrev pub StepRunsKeepStores : Type 0
StepRunsKeepStores = (now : ℕ) (s t : State) (offers : List (List Event)) (wanted : ℕ) (gave : List Stored)
    → now < 2 ^ 64 → IsState s → AreBy now offers
    → IsStepRun offers wanted gave s t → KeepsStore now (count_of offers) s t

-- in each store and step a run has the volumes, the losses and the dumps of its plan
abbrev pub RunsLoseAsPlanned : Type 0
RunsLoseAsPlanned = (q : Dumping) (x : Amounts) (steps : ℕ) (offers : ℕ → ℕ → List (List Event))
    (gave : ℕ → ℕ → List Stored) (states : ℕ → ℕ → State) → IsRunOf q x steps offers gave states
    → AtEach (length q.rows) steps (λ s t. AsPlanned q x s t (states s (t - 1)) (states s t))

-- over all steps the stores lose what the plan loses
abbrev pub RunsLoseThePlansLoss : Type 0
RunsLoseThePlansLoss = (q : Dumping) (x : Amounts) (offers : ℕ → ℕ → List (List Event)) (gave : ℕ → ℕ → List Stored)
    (states : ℕ → ℕ → State) → IsRunOf q x (length q.windows) offers gave states
    → sum_by (λ s. (states s (length q.windows)).lost) (stores q)
    ≡ sum_by (λ s. (states s 0).lost) (stores q) + loss q x

-- where the plan fits a step of a run that was carried out whole, what was sent in it fits too: no more than the
-- window, and of each channel no more than its limit
abbrev pub WholeStepsFit : Type 0
WholeStepsFit = (m : RunInput) (steps : ℕ) (stores : ℕ → List Held) (gave : ℕ → ℕ → List Stored)
    → AreStepRuns m steps stores gave
    → (t : ℕ) → 1 ≤ t → t ≤ steps → FitsAt m.problem m.amounts t → FitsAt m.problem (sent_amounts m gave) t

-- where a plan fits a step, draws of one block for each packet that the step's orders are given meet no refusal, in
-- whatever order they come
abbrev pub DrawsMeetNoRefusal : Type 0
DrawsMeetNoRefusal = (q : Dumping) (x : Amounts) (t : ℕ) (gave : ℕ → List Stored) (calls : ℕ → List Entry)
    (draws : List ℕ) → FitsAt q x t → ((s : ℕ) → s < length q.rows → IsDumpOf (x s t) (gave s) (calls s))
    → AreDrawsOf (length q.rows) gave draws → MeetNoRefusal (window q t) 0 draws

-- each store of a run is accounted for, packet by packet
abbrev pub RunsLoseNoPacketUncounted : Type 0
RunsLoseNoPacketUncounted = (q : Dumping) (x : Amounts) (steps : ℕ) (offers : ℕ → ℕ → List (List Event))
    (gave : ℕ → ℕ → List Stored) (states : ℕ → ℕ → State) → IsRunOf q x steps offers gave states
    → (s : ℕ) → s < length q.rows → IsAccounted steps (offers s) (gave s) (states s)
