-- Runs that follow one another over one store: what whole orders send is sent once, and what is sent again only broken
-- orders had sent.
use Rattle.std.specs.Prelude.{◌≡◌, ℕ, ◌<◌, ◌-◌, List, [], ◌∷◌, ◌++◌, length, flat_map, All, Contains}
use Rattle.std.specs.Prelude.{Option, Some, None}
use Rattle.mm_store.specs.Content.{IsRising}
use Rattle.mm_desk.specs.Fates.{given, after, over}
use Rattle.mm_dump.specs.declared.order.OrderBroken.{OrderBroken}
use Rattle.mm_carry.specs.Words.{Stored, State, IsState, Event, Held, Table, Supply, Sent, Reported}
use Rattle.mm_carry.specs.declared.step.Stop.{Stop}
use Rattle.mm_carry.specs.Accounts.{over_steps, HaveLeft}
use Rattle.mm_carry.specs.RunInput.{RunInput, place_in_memory, store_state}
use Rattle.mm_carry.specs.RunState.{RunState}
use Rattle.mm_carry.specs.Ending.{HasRun, IsHaltedIn}

-- what a run did with a store: the state in which it found it and the one in which it left it, what its whole orders
-- sent, and what an order that broke sent
pub record StoreRun : Type 0 where
  pub before : State
  pub left : State
  pub gave : List Stored
  pub broke : List Stored

-- the run did so by these events: what whole orders sent they took out of the store; what the broken order sent they
-- gave after that, and it is still there, as the oldest packets
pub record IsStoreRun (r : StoreRun) : Type 0 where
  pub events : List Event
  pub leads : r.left ≡ after r.before events
  pub gone : HaveLeft r.before events r.gave
  pub given_are : All (Contains (over given r.before events)) r.broke
  pub rising : IsRising (r.gave ++ r.broke)
  pub newer : List Stored
  pub oldest : r.left.store.content ≡ r.broke ++ newer

-- runs follow one another: each finds the store as the one before left it, or as further events led it on
abbrev pub AreFollowing : State → List StoreRun → Type 0
AreFollowing s [] = Unit {0}
AreFollowing s (r ∷ rs) =
    (between : List Event) × (r.before ≡ after s between) × IsStoreRun r × AreFollowing r.left rs

-- what runs sent: all of it, what their whole orders sent, and what their broken orders sent
abbrev pub all_of : List StoreRun → List Stored
all_of runs = flat_map (λ r. r.gave ++ r.broke) runs

abbrev pub whole_of : List StoreRun → List Stored
whole_of runs = flat_map (λ r. r.gave) runs

abbrev pub broken_of : List StoreRun → List Stored
broken_of runs = flat_map (λ r. r.broke) runs

-- over all runs what whole orders sent has rising times: no packet of it comes twice. All that a run sent is later than
-- what whole orders of earlier runs sent: what it sent again, only broken orders of earlier runs had sent
pub record SendOnce (runs : List StoreRun) : Type 0 where
  pub whole : IsRising (whole_of runs)
  pub later : (early late : List StoreRun) (r : StoreRun) → runs ≡ early ++ r ∷ late
      → IsRising (whole_of early ++ r.gave ++ r.broke)
  pub again : (early late : List StoreRun) (r : StoreRun) → runs ≡ early ++ r ∷ late → (p : Stored)
      → Contains (r.gave ++ r.broke) p → Contains (all_of early) p → Contains (broken_of early) p

-- so it is over any runs that follow one another
abbrev pub RunsSendOnce : Type 0
RunsSendOnce = (s : State) (runs : List StoreRun) → IsState s → AreFollowing s runs → SendOnce runs

-- what an order sent that is whole, and what one sent that broke
abbrev pub where_whole : Option OrderBroken → List Stored → List Stored
where_whole None sent = sent
where_whole (Some why) sent = []

abbrev pub where_broken : Option OrderBroken → List Stored → List Stored
where_broken None sent = []
where_broken (Some why) sent = sent

-- a run left a store of its problem as it is among these stores
abbrev pub store_run : RunInput → ℕ → List Held → List Stored → List Stored → StoreRun
store_run m s now gave broke = record {
  before = store_state m m.memory.stores s;
  left = store_state m now s;
  gave = gave;
  broke = broke;
}

-- the steps of a run that are carried out are such a run of each store of the problem, without a broken order
abbrev pub StepsAreStoreRuns : {L : Type 0} → (L → List Sent) → (L → ℕ) → Type 0
StepsAreStoreRuns {L} sent failed = (m : RunInput) (plan : Table) (first : RunState Supply L) (steps : ℕ)
    (now : RunState Supply L) (report : Reported) (ran : HasRun sent failed m plan first steps now report) (s : ℕ)
    → s < length m.problem.rows
    → IsStoreRun (store_run m s now.stores (over_steps (ran.done.gave (place_in_memory m s)) steps) [])

-- and so is a run that was halted in a step, with the order of that step, whole or broken, where a link took it
abbrev pub HaltedRunsAreStoreRuns : {L : Type 0} → (L → List Sent) → (L → ℕ) → Type 0
HaltedRunsAreStoreRuns {L} sent failed = (m : RunInput) (plan : Table) (first : RunState Supply L) (step : ℕ)
    (left : RunState Supply L) (stop : Stop) (report : Reported)
    (halted : IsHaltedIn sent failed m plan first step left stop report) (s : ℕ)
    → s < length m.problem.rows → IsState (store_state m m.memory.stores s)
    → let c = halted.how.dumps.settled.course (place_in_memory m s) in
    IsStoreRun (store_run m s left.stores
    (over_steps (halted.ran.done.gave (place_in_memory m s)) (step - 1) ++ where_whole c.why c.sent)
    (where_broken c.why c.sent))
