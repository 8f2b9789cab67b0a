-- Offers that no store refuses, since storage is on, and clock and count are far from their ends; and offers that a
-- store refused.
use Rattle.mm_record.proofs.Words
use Words.{◌≡◌, ℕ, suc, ◌+◌, ◌<◌, ◌≤◌, ◌==◌, ◌||◌, Bool, true, false, not, cond, max, ltb, List, [], ◌∷◌, length}
use Words.{get_or, filter, All, Result, Ok, Err, refl, sym, subst, arith, Any, Contains, both_ways, cond_both, eq-eqb}
use Words.{nat_tests, All-cons, All-contains_itself, All-filter, All-head, All-nil, All-tail, All-unmapped, SpacePacket}
use Words.{Entry, Event, Offer, Fault, Returned, State, answer_of, after_put, offer, step, AreTaken, IsTaken}
use Words.{IsShuffleOfEvents, count_of, IsLegal, IsRun, AreBelow, IsShuffle, part, IsRefusedWith}
use Rattle.std.proofs.lemmas.List.Filters.{length-filter_both}
use Rattle.mm_base.specs.declared.kind.Kind.{Kind}
use Rattle.mm_base.specs.declared.kind.Kind.TheVariants.{Circular}
use Rattle.mm_store.specs.declared.stored.Stored.{Stored}
use Rattle.mm_store.specs.declared.put.Put.{Put}
use Rattle.mm_store.specs.Content.{Store, clock_end, put_full, put_timed}
use Rattle.mm_desk.specs.declared.reply.Offered.{Offered}
use Rattle.mm_desk.specs.declared.reply.Reply.{Reply}
use Rattle.mm_desk.proofs.Logs.{count_of_shuffle}
use Rattle.mm_desk.specs.declared.reply.Reply.TheVariants as reply

-- an event is an offer at a moment
abbrev pub IsOfferAt : ℕ → Event → Type 0
IsOfferAt now event = (p : SpacePacket) × (event ≡ Offer now p)

-- a store takes this many offers more at a moment
pub record HasTime (now n : ℕ) (s : State) : Type 0 where
  pub storage : s.storage ≡ true
  pub last : s.store.last + n ≤ clock_end
  pub moment : now + n ≤ clock_end
  pub count : s.offered + n ≤ clock_end

-- a put is taken, and the last time is at most the new one
pub record Takes (time : ℕ) (done : Put × Store) : Type 0 where
  pub taken : (now : ℕ) (p : SpacePacket) → IsTaken (Offer now p) (reply.Offered (answer_of done.0))
  pub last : done.1.last ≤ time

full_takes : (kind : Kind) (held : List Stored) (s : Store) (new : Stored) → s.last ≤ new.time
    → Takes new.time (put_full kind held s new)
full_takes Circular (x ∷ xs) s new later = record { taken = λ now p. tt; last = omega arith }
full_takes kind held s new later = record { taken = λ now p. tt; last = later }

pub timed_takes : (s : Store) (new : Stored) → s.last ≤ new.time → Takes new.time (put_timed s new)
timed_takes s new later =
    cond_both (ltb (length s.content) s.size) _ _ (Takes new.time)
    (λ free. record { taken = λ now p. tt; last = omega arith })
    (λ full. full_takes s.kind s.content s new later)

-- one offer is taken, and leaves time for one fewer
record TakesOne (now n : ℕ) (packet : SpacePacket) (answered : Result Offered Returned × State) : Type 0 where
  taken : IsTaken (Offer now packet) (reply.Offered answered.0)
  time : HasTime now n answered.1

offer_taken : (s : State) (now n : ℕ) (packet : SpacePacket) → HasTime now (suc n) s
    → TakesOne now n packet (offer s now packet)
offer_taken s now n packet time =
    cond_both (not s.storage) _ _ (TakesOne now n packet)
    (λ off. absurd (cc (off, time.storage)))
    (λ on. cond_both ((s.store.last == clock_end) || (s.offered == clock_end)) _ _ (TakesOne now n packet)
    (λ late. absurd (grind (arith, nat_tests)))
    (λ early. cond_both (s.store.last == clock_end) _ _
    (λ (done : Put × Store). TakesOne now n packet (answer_of done.0, after_put s done))
    (λ late. absurd (grind (arith, nat_tests)))
    (λ before.
    let put = timed_takes s.store (record { time = max now (s.store.last + 1); packet = packet }) (omega arith) in
    record {
      taken = put.taken now packet;
      time = record {
        storage = time.storage;
        last = omega (arith, put.last, time.last, time.moment);
        moment = omega (arith, time.moment);
        count = omega (arith, time.count);
      };
    })))

-- a log of offers is taken, if there is time for all of them
log_taken : (now : ℕ) (s : State) (log : List Entry) → HasTime now (length log) s → All (λ e. IsOfferAt now e.event) log
    → IsLegal s log → AreTaken log
log_taken now s [] time offers legal = All-nil (λ (e : Entry). IsTaken e.event e.reply)
log_taken now s (e ∷ es) time offers legal =
    let is = All-head (λ (x : Entry). IsOfferAt now x.event) e es offers in
    let one = offer_taken s now (length es) is.0 time in
    All-cons (λ (x : Entry). IsTaken x.event x.reply) e es (rw (legal.0, is.1) one.taken)
    (log_taken now (step s e.event).1 es (rw is.1 one.time)
    (All-tail (λ (x : Entry). IsOfferAt now x.event) e es offers) legal.1)

-- what holds of each element that passes a test
All-unfiltered : {X : Type 0} (P : X → Type 0) (p : X → Bool) (xs : List X) → All P (filter p xs)
    → All (λ x. p x ≡ true → P x) xs
All-unfiltered P p [] all = All-nil (λ x. p x ≡ true → P x)
All-unfiltered P p (x ∷ xs) all =
    elim (p x)
    as (λ t. p x ≡ t → All P (cond t (x ∷ filter p xs) (filter p xs)) → All (λ x. p x ≡ true → P x) (x ∷ xs)) [
      | true ↦ λ e all. All-cons (λ x. p x ≡ true → P x) x xs (λ passes. All-head P x (filter p xs) all)
          (All-unfiltered P p xs (All-tail P x (filter p xs) all))
      | false ↦ λ e all. All-cons (λ x. p x ≡ true → P x) x xs (λ passes. absurd (both_ways (p x) e passes))
          (All-unfiltered P p xs all)
    ] refl all

-- what holds of the part of each seat holds of the log
pub parts_all : (P : Entry → Type 0) (seats : ℕ) (log : List Entry) → AreBelow seats log
    → ((seat : ℕ) → seat < seats → All P (part seat log)) → All P log
parts_all P seats log below parts i d within =
    let seat = (get_or log i d).seat in
    All-unfiltered P (λ e. e.seat == seat) log (parts seat (below i d within)) i d within (eq-eqb seat seat refl)

-- what holds of each event of some lists holds of a log that is a shuffle of them
pub shuffled : (P : Event → Type 0) (lists : List (List Event)) (log : List Entry) → IsShuffleOfEvents lists log
    → All (λ list. All P list) lists → All (λ e. P e.event) log
shuffled P lists log shuffle all =
    parts_all (λ e. P e.event) (length lists) log shuffle.below
    (λ seat within. All-unmapped P (λ (e : Entry). e.event) (part seat log)
    (subst (All P) (sym (shuffle.parts seat within)) (all seat [] within)))

-- a log that is a shuffle of few offers is taken
pub shuffle_is_taken : (now : ℕ) (s t : State) (lists : List (List Event)) (log : List Entry)
    → HasTime now (count_of lists) s → IsRun s log t
    → IsShuffleOfEvents lists log → All (λ es. All (IsOfferAt now) es) lists → AreTaken log
shuffle_is_taken now s t lists log time run shuffle offers =
    log_taken now s log (subst (λ (n : ℕ). HasTime now n s) (count_of_shuffle lists log shuffle) time)
    (shuffled (IsOfferAt now) lists log shuffle offers) run.legal

-- a refusal with this fault
abbrev pub IsRefusal : Fault → Entry → Type 0
IsRefusal fault e = IsRefusedWith fault e.event e.reply

-- an offer that was refused was not taken
is_other : (event : Event) (answer : Reply) (fault : Fault) → IsRefusedWith fault event answer → IsTaken event answer
    → ⊥
is_other (Offer now packet) (reply.Offered (Ok offered)) fault refused taken = refused
is_other (Offer now packet) (reply.Offered (Err back)) fault refused taken = taken
is_other event answer fault refused taken = refused

-- not all of a list are taken that has a refusal
pub not_taken : (log : List Entry) (fault : Fault) → Any (IsRefusal fault) log → AreTaken log → ⊥
not_taken log fault (i, e, within, at, refused) taken =
    is_other e.event e.reply fault refused (subst (λ (x : Entry). IsTaken x.event x.reply) at (taken i e within))

-- a refusal in one of the lists is in the log that is a shuffle of them
pub refusal_in_log : (fault : Fault) (lists : List (List Entry)) (log : List Entry) → IsShuffle lists log → (seat : ℕ)
    → seat < length lists → Any (IsRefusal fault) (get_or lists seat []) → Any (IsRefusal fault) log
refusal_in_log fault lists log shuffle seat within (i, e, inside, at, refused) =
    let part_in_log = All-filter (λ (e : Entry). e.seat == seat) (Contains log) log (All-contains_itself log) in
    let found = subst (Contains log) at (subst (All (Contains log)) (shuffle.parts seat within) part_in_log i e
    inside) in
    (found.0, e, found.1, found.2, refused)

-- no more passes a test than there is
pub filter_fewer : {X : Type 0} (p : X → Bool) (xs : List X) → length (filter p xs) ≤ length xs
filter_fewer p xs = omega (arith, length-filter_both p (λ x. not (p x)) (λ x. refl) xs)
