-- What offers leave and lose.
use Rattle.mm_desk.proofs.Words.{ℕ, suc, ◌≤◌, List, [], ◌∷◌, length, subst, ap, arith, length-append, rules, All-head}
use Rattle.mm_desk.proofs.Words.{All-tail, Entry, Event, Offer, State, step, IsTaken, AreTaken, IsShuffleOfEvents}
use Rattle.mm_desk.proofs.Words.{Leaves, count_of, replay, IsLegal, IsRun}
use Rattle.mm_desk.proofs.Cases.{put_cases}
use Rattle.mm_desk.proofs.Logs.{count_of_shuffle}
use Rattle.mm_desk.specs.declared.reply.Reply.TheVariants as reply

-- an event that is an offer taken leaves one packet more, or a full store
event_leaves : (s : State) (event : Event) → length s.store.content ≤ s.store.size → 1 ≤ s.store.size
    → IsTaken event (step s event).0 → Leaves s (step s event).1 1
event_leaves s (Offer now packet) within room =
    put_cases s (λ r. IsTaken (Offer now packet) (reply.Offered r.0) → Leaves s r.1 1) now packet
    (λ fault other refused. absurd refused)
    (λ new is free taken. search (arith, rules, length-append s.store.content (new ∷ [])))
    (λ new is oldest later o taken. let full = o.full in let count = ap length o.held in search
    (arith, rules, length-append later (new ∷ []), count))
    (λ stuck taken. let full = stuck.full in search (arith, rules))
event_leaves s event within room = λ taken. absurd taken

-- one offer and then more
leaves_more : (s t u : State) (n : ℕ) → length s.store.content ≤ s.store.size → Leaves s t 1 → Leaves t u n
    → Leaves s u (suc n)
leaves_more s t u n within one more = record {
  volume = omega (arith, one.volume, more.volume, one.size);
  lost = omega (arith, one.volume, one.lost, more.lost, one.size);
  kind = cc;
  size = cc;
  storage = cc;
  retrieval = cc;
  offered = omega (arith, one.offered, more.offered);
  deleted = cc;
}

-- a log of offers that were not refused
log_leaves : (s : State) (log : List Entry) → length s.store.content ≤ s.store.size → 1 ≤ s.store.size
    → IsLegal s log → AreTaken log → Leaves s (replay s log) (length log)
log_leaves s [] within room legal taken = search (arith, rules)
log_leaves s (e ∷ es) within room legal taken =
    let is_taken = subst (IsTaken e.event) legal.0 (All-head (λ (e : Entry). IsTaken e.event e.reply) e es taken) in
    let first = event_leaves s e.event within room is_taken in
    let others = All-tail (λ (e : Entry). IsTaken e.event e.reply) e es taken in
    let rest = log_leaves (step s e.event).1 es (omega (arith, first.volume, first.size))
    (omega (arith, first.size)) legal.1 others in
    leaves_more s _ _ (length es) within first rest

-- offers leave one packet more each, or a full store, in any order
pub offers_leave : (s t : State) (lists : List (List Event)) (log : List Entry) → length s.store.content ≤ s.store.size
    → 1 ≤ s.store.size
    → IsRun s log t → IsShuffleOfEvents lists log → AreTaken log → Leaves s t (count_of lists)
offers_leave s t lists log within room run shuffle taken =
    rw (run.leaves, count_of_shuffle lists log shuffle) (log_leaves s log within room run.legal taken)
