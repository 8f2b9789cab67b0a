-- Every event keeps the sum of the counters, and leaves a state.
use Rattle.mm_desk.proofs.Words.{List, [], ◌∷◌, All, arith, All-head, All-tail, count_up_to-kept, Entry, Event, Offer}
use Rattle.mm_desk.proofs.Words.{Delete, State, Balances, IsState, step, replay}
use Rattle.mm_store.specs.Laws.{LoseAlike, PutsKeepStores, DeletionsKeepStores}
use Rattle.mm_desk.specs.Laws.{KeepBalance, HasTimes}
use Rattle.mm_desk.proofs.Cases.{offer_cases, delete_cases, quiet_leaves}

-- what was offered is lost, deleted or held after each event
pub balanced : LoseAlike → (s : State) → IsState s → (e : Event) → Balances (step s e).1
balanced alike s sound (Offer now packet) =
    offer_cases s (λ r. Balances r.1) now packet (λ fault other. sound.balance)
    (λ last offered.
    let lost = (alike s.store now packet sound.store.has_room sound.store.within
    (omega (arith, sound.store.last_fits, last))).lost in
    omega (arith, lost, sound.balance))
balanced alike s sound (Delete limit) =
    delete_cases s (λ r. Balances r.1) limit (λ busy. sound.balance)
    (λ idle. omega (arith, sound.balance, count_up_to-kept limit s.store.content))
balanced alike s sound e = quiet_leaves s e tt Balances (λ storage retrieval. sound.balance)

module _ (balance : KeepBalance) (puts : PutsKeepStores) (deletions : DeletionsKeepStores) (s : State)
    (sound : IsState s) where
  by_event : (e : Event) → HasTimes e → Balances (step s e).1 → IsState (step s e).1
  by_event (Offer now packet) fits =
      offer_cases s (λ r. Balances r.1 → IsState r.1) now packet (λ fault other same. sound)
      (λ last offered balanced. record {
        store = puts s.store now packet fits sound.store;
        balance = balanced;
        offered_fits = omega (arith, sound.offered_fits, offered);
      })
  by_event (Delete limit) fits =
      delete_cases s (λ r. Balances r.1 → IsState r.1) limit (λ busy same. sound)
      (λ idle balanced. record {
        store = deletions s.store limit sound.store;
        balance = balanced;
        offered_fits =
            sound.offered_fits;
      })
  by_event e fits =
      quiet_leaves s e tt (λ t. Balances t → IsState t)
      (λ storage retrieval balanced.
      record { store = sound.store; balance = balanced; offered_fits = sound.offered_fits })

  -- an event whose times fit leaves a state
  pub event_keeps : (e : Event) → HasTimes e → IsState (step s e).1
  event_keeps e fits = by_event e fits (balance s e sound)

-- a log whose times fit leaves a state
pub log_keeps : KeepBalance → PutsKeepStores → DeletionsKeepStores → (s : State) (log : List Entry) → IsState s
    → All (λ e. HasTimes e.event) log → IsState (replay s log)
log_keeps balance puts deletions s [] sound fits = sound
log_keeps balance puts deletions s (e ∷ es) sound fits =
    let here = event_keeps balance puts deletions s sound e.event (All-head (λ (e : Entry). HasTimes e.event) e es fits)
    in
    log_keeps balance puts deletions (step s e.event).1 es here (All-tail (λ (e : Entry). HasTimes e.event) e es fits)
