-- Logs in two parts, what holds of the entries of a log by its seats, and what a log of offers leaves of a store.
use Rattle.mm_carry.proofs.Words.{cond_both, All-head, All-tail, ◌==◌, ◌||◌, not, Result, SpacePacket, Store, clock_end}
use Rattle.mm_carry.proofs.Words.{put, State, step, offer, IsShuffleOfEvents, replay, IsLegal, IsRun, Entry, Event}
use Rattle.mm_carry.proofs.Words.{Offer, IsBy, AreBy, ◌≡◌, List, [], ◌∷◌, ◌++◌, length, All, refl, sym, subst, ap, ◌∙◌}
use Rattle.mm_carry.proofs.Words.{ℕ, ◌+◌, ◌≤◌, max, arith, shuffled, timed_takes}
use Rattle.mm_store.specs.declared.put.Put.{Put}
use Rattle.mm_desk.specs.declared.reply.Offered.{Offered}
use Rattle.mm_desk.specs.declared.reply.Returned.{Returned}

-- a legal list is legal in its first part, and from there in its second
IsLegal-parts : (s : State) (es fs : List Entry) → IsLegal s (es ++ fs) → IsLegal s es × IsLegal (replay s es) fs
IsLegal-parts s [] fs legal = (tt, legal)
IsLegal-parts s (e ∷ es) fs legal =
    let rest = IsLegal-parts (step s e.event).1 es fs legal.1 in
    ((legal.0, rest.0), rest.1)

-- a legal list that goes on by a legal list is legal
IsLegal-append : (s : State) (es fs : List Entry) → IsLegal s es → IsLegal (replay s es) fs → IsLegal s (es ++ fs)
IsLegal-append s [] fs first second = second
IsLegal-append s (e ∷ es) fs first second = (first.0, IsLegal-append (step s e.event).1 es fs first.1 second)

-- the first part leads to the state from which the second goes on
replay-append : (s : State) (es fs : List Entry) → replay s (es ++ fs) ≡ replay (replay s es) fs
replay-append s [] fs = refl
replay-append s (e ∷ es) fs = replay-append (step s e.event).1 es fs

-- a run goes on by another
pub IsRun-append : (s mid t : State) (es fs : List Entry) → IsRun s es mid → IsRun mid fs t → IsRun s (es ++ fs) t
IsRun-append s mid t es fs first second = record {
  legal = IsLegal-append s es fs first.legal (subst (λ (u : State). IsLegal u fs) first.leaves second.legal);
  leaves = second.leaves ∙ ap (λ (u : State). replay u fs) first.leaves ∙ sym (replay-append s es fs);
}

-- a run is one of its first part, and from there one of its second
pub IsRun-parts : (s t : State) (es fs : List Entry) → IsRun s (es ++ fs) t → IsRun s es (replay s es)
    × IsRun (replay s es) fs t
IsRun-parts s t es fs run =
    let legal = IsLegal-parts s es fs run.legal in
    (record { legal = legal.0; leaves = refl }, record { legal = legal.1; leaves = run.leaves ∙ replay-append s es fs })

-- what holds of the offers by a moment holds of each such event
pub by_offer : (P : Event → Type 0) (now : ℕ) → ((at : ℕ) (packet : SpacePacket) → at ≤ now → P (Offer at packet))
    → (event : Event) → IsBy now event → P event
by_offer P now offers (Offer at packet) by = offers at packet by
by_offer P now offers event by = absurd by

-- a put moves the last time to the moment, or by one
put_last : (s : Store) (now : ℕ) (packet : SpacePacket) (m : ℕ) → s.last ≤ m → now ≤ m → (put s now packet).1.last
    ≤ m + 1
put_last s now packet m before early =
    cond_both (s.last == clock_end) _ _ (λ (done : Put × Store). done.1.last ≤ m + 1) (λ late. omega arith)
    (λ free. let put = timed_takes s (record { time = max now (s.last + 1); packet = packet }) (omega arith) in
    omega (arith, put.last))

-- a store whose storage switch and retrieval are as they were
pub record KeepsSwitches (s t : State) : Type 0 where
  pub storage : t.storage ≡ s.storage
  pub retrieval : t.retrieval ≡ s.retrieval

-- a store with its switches as they were, and a last storage time that is no later than this
pub record MovesTo (most : ℕ) (s t : State) : Type 0 where
  pub switches : KeepsSwitches s t
  pub last : t.store.last ≤ most

-- an offer moves the last time to the moment, or by one
offer_moves : (s : State) (now : ℕ) (packet : SpacePacket) (m : ℕ) → s.store.last ≤ m → now ≤ m
    → MovesTo (m + 1) s (offer s now packet).1
offer_moves s now packet m before early =
    let Moves = λ (r : Result Offered Returned × State). MovesTo (m + 1) s r.1 in
    cond_both (not s.storage) _ _ Moves
    (λ off. record { switches = record { storage = refl; retrieval = refl }; last = omega arith })
    (λ on. cond_both ((s.store.last == clock_end) || (s.offered == clock_end)) _ _ Moves
    (λ late. record { switches = record { storage = refl; retrieval = refl }; last = omega arith })
    (λ free. record {
      switches = record { storage = refl; retrieval = refl };
      last = put_last s.store now packet m before early;
    }))

-- offers move it by no more than they are
log_moves : (now : ℕ) (s : State) (log : List Entry) (m : ℕ) → All (λ e. IsBy now e.event) log → s.store.last ≤ m → now
    ≤ m → MovesTo (m + length log) s (replay s log)
log_moves now s [] m by before early =
    record { switches = record { storage = refl; retrieval = refl }; last = omega arith }
log_moves now s (e ∷ es) m by before early =
    let first = by_offer (λ (event : Event). MovesTo (m + 1) s (step s event).1) now
    (λ at packet on_time. offer_moves s at packet m before (omega (arith, on_time, early)))
    e.event (All-head (λ (e : Entry). IsBy now e.event) e es by) in
    let rest = log_moves now (step s e.event).1 es (m + 1) (All-tail (λ (e : Entry). IsBy now e.event) e es by)
    first.last (omega arith) in
    record {
      switches = record {
        storage = rest.switches.storage ∙ first.switches.storage;
        retrieval = rest.switches.retrieval ∙ first.switches.retrieval;
      };
      last = omega (arith, rest.last);
    }

-- so do the offers of a log that is a shuffle of them
pub run_moves : (now : ℕ) (lists : List (List Event)) (log : List Entry) (s t : State) → IsRun s log t
    → IsShuffleOfEvents lists log → AreBy now lists → MovesTo (max s.store.last now + length log) s t
run_moves now lists log s t run shuffle by =
    subst (MovesTo (max s.store.last now + length log) s) (sym run.leaves)
    (log_moves now s log (max s.store.last now) (shuffled (IsBy now) lists log shuffle by) (omega arith) (omega arith))
