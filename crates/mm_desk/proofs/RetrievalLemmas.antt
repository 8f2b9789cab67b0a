-- What a retrieval gives from its begin to its end.
use Rattle.mm_desk.proofs.Words.{◌≡◌, ◌⊎◌, inl, inr, ℕ, ◌<◌, ◌≤◌, Bool, true, false, List, [], ◌∷◌, ◌++◌, All, Contains}
use Rattle.mm_desk.proofs.Words.{refl, sym, subst, arith, Option, Some, None, Ok, is_some, find, cond_both, nat_tests}
use Rattle.mm_desk.proofs.Words.{All-nil, All-cons, All-head, All-tail, All-filter, All-weaker, All-contains_itself}
use Rattle.mm_desk.proofs.Words.{AllPairs-filter, All-front, All-back, AllPairs-head, AllPairs-tail, IsRising, is_in}
use Rattle.mm_desk.proofs.Words.{Stored, Event, Offer, Begin, Next}
use Rattle.mm_desk.proofs.Words.{Abort, Delete, KeptOver, Retrieval, found_in, given, deleted, after, over, State}
use Rattle.mm_desk.proofs.Words.{IsState, give, next_of, step, oldest_over, overwritten, AtEach, IsWithin}
use Rattle.mm_store.proofs.PutLemmas.{IsOrdered, newest_ordered}
use Rattle.mm_desk.specs.Retrievals.{IsOn, IsBegun, AbortsNone, GivesRange}
use Rattle.mm_desk.proofs.Cases.{put_cases, begin_cases, delete_cases, quiet_leaves}
use Rattle.mm_desk.proofs.FateLemmas.{gives_held, Above, Continues, rises}

-- the times of a state rise, up to the last one that was given
pub is_ordered : (s : State) → IsState s → IsOrdered s.store
is_ordered s sound = record { rising = sound.store.rising; up_to_last = sound.store.up_to_last }

-- so it is after each event
pub stays_ordered : (s : State) (e : Event) → IsOrdered s.store → IsOrdered (step s e).1.store
stays_ordered s (Offer now packet) ordered =
    put_cases s (λ r. IsOrdered r.1.store) now packet (λ fault other. ordered)
    (λ new is free. newest_ordered s.store s.store.content new is.later ordered.rising ordered.up_to_last)
    (λ new is oldest later o.
    newest_ordered s.store later new is.later
    (AllPairs-tail (λ p q. p.time < q.time) oldest later (rw o.held at ordered.rising))
    (All-tail (λ p. p.time ≤ s.store.last) oldest later (rw o.held at ordered.up_to_last)))
    (λ stuck. ordered)
stays_ordered s (Delete limit) ordered =
    delete_cases s (λ r. IsOrdered r.1.store) limit (λ busy. ordered)
    (λ idle. record {
      rising = AllPairs-filter (λ p q. p.time < q.time) _ s.store.content ordered.rising;
      up_to_last = All-filter _ (λ p. p.time ≤ s.store.last) s.store.content ordered.up_to_last;
    })
stays_ordered s e ordered = quiet_leaves s e tt (λ t. IsOrdered t.store) (λ storage retrieval. ordered)

-- what is so of each event during a retrieval is so at each
during : (P : State → Event → Type 0) → ((s : State) (e : Event) → IsOn s → P s e) → (s : State) (es : List Event)
    → AtEach (λ t e. IsOn t) s es → AtEach P s es
during P each s [] on = tt
during P each s (e ∷ es) on = (each s e on.0, during P each (step s e).1 es on.1)

-- during a retrieval none begins
on_continues : (s : State) (e : Event) → IsOn s → Continues s e
on_continues s (Begin from to) on = on
on_continues s e on = tt

-- and nothing is deleted
on_keeps : (s : State) (e : Event) → IsOn s → deleted s e ≡ []
on_keeps s (Delete limit) on = rw on refl
on_keeps s e on = refl

deletes_none : (s : State) (es : List Event) → AtEach (λ t e. IsOn t) s es → over deleted s es ≡ []
deletes_none s [] on = refl
deletes_none s (e ∷ es) on = rw (on_keeps s e on.0) (deletes_none (step s e).1 es on.1)

-- all that pass a test are what a search finds, or later
abbrev FromFound : Option Stored → Stored → Type 0
FromFound (Some p) q = (q ≡ p) ⊎ (p.time < q.time)
FromFound None q = ⊥

finds_first : (test : Stored → Bool) (xs : List Stored) → IsRising xs
    → All (λ q. test q ≡ true → FromFound (find test xs) q) xs
finds_first test [] rising = All-nil _
finds_first test (x ∷ xs) rising =
    cond_both (test x) _ _ (λ found. All (λ q. test q ≡ true → FromFound found q) (x ∷ xs))
    (λ yes. All-cons (λ q. test q ≡ true → FromFound (Some x) q) x xs (λ passes. inl refl)
    (All-weaker (λ q. x.time < q.time) (λ q. test q ≡ true → FromFound (Some x) q) (λ q later passes. inr later) xs
    (AllPairs-head (λ p q. p.time < q.time) x xs rising)))
    (λ no. All-cons (λ q. test q ≡ true → FromFound (find test xs) q) x xs (λ passes. absurd cc)
    (finds_first test xs (AllPairs-tail (λ p q. p.time < q.time) x xs rising)))

module _ (D : Stored → Type 0) where
  -- what the retrieval has still to give
  abbrev Awaited : Option Retrieval → Stored → Type 0
  Awaited (Some r) p = is_in r.from r.to r.after p ≡ true → D p
  Awaited None p = Unit {0}

  abbrev AllAwaited : State → Type 0
  AllAwaited s = All (Awaited s.retrieval) s.store.content

  done : (r : Option Retrieval) (p : Stored) → D p → Awaited r p
  done (Some r) p d = λ passes. d
  done None p d = tt

  -- where no retrieval is on
  awaits_none : (r : Option Retrieval) (held : List Stored) → is_some r ≡ false → All (Awaited r) held
  awaits_none (Some r) held idle = absurd cc
  awaits_none None held idle = λ k d within. tt

  -- one packet is given, or the retrieval ends
  given_next : (s : State) → IsOrdered s.store → (retrieval : Option Retrieval)
      → All D (found_in (next_of s retrieval).0)
      → AllAwaited (next_of s retrieval).1 → All (Awaited retrieval) s.store.content
  given_next s ordered None gave later = λ k d within. tt
  given_next s ordered (Some r) gave later =
      let passing = is_in r.from r.to r.after in
      by_found (find passing s.store.content) gave later (finds_first passing s.store.content ordered.rising)
    where
      by_found : (next : Option Stored) → All D (found_in (give s r next).0) → AllAwaited (give s r next).1
          → All (λ q. is_in r.from r.to r.after q ≡ true → FromFound next q) s.store.content
          → All (Awaited (Some r)) s.store.content
      by_found None gave later first = λ k d within passes. absurd (first k d within passes)
      by_found (Some p) gave later first = λ k d within passes. elim (first k d within passes) [
        | inl same ↦ subst D (sym same) (All-head D p [] gave)
        | inr newer ↦ later k d within (grind (arith, nat_tests, passes, newer))
      ]

  -- an event gives what was awaited, or overwrites it, or leaves it awaited
  awaits : (s : State) (e : Event) → IsOrdered s.store → AbortsNone e → All D (given s e) → All D (overwritten s e)
      → AllAwaited (step s e).1 → AllAwaited s
  awaits s (Offer now packet) ordered none gave lost =
      let held = s.store.content in
      put_cases s (λ r. All D (oldest_over r.0 held) → AllAwaited r.1 → AllAwaited s) now packet
      (λ fault other lost later. later)
      (λ new is free lost later. All-front (Awaited s.retrieval) held (new ∷ []) later)
      (λ new is oldest rest o lost later.
      let first = All-head D oldest [] (subst (λ (h : List Stored). All D
      (oldest_over (Ok (KeptOver new.time oldest.packet)) h)) o.held lost) in
      subst (All (Awaited s.retrieval)) (sym o.held)
      (All-cons (Awaited s.retrieval) oldest rest (done s.retrieval oldest first)
      (All-front (Awaited s.retrieval) rest (new ∷ []) later)))
      (λ stuck lost later. later) lost
  awaits s (Begin from to) ordered none gave lost =
      begin_cases s (λ r. AllAwaited r.1 → AllAwaited s) from to (λ fault other later. later)
      (λ idle later. awaits_none s.retrieval s.store.content idle)
  awaits s Next ordered none gave lost = given_next s ordered s.retrieval gave
  awaits s Abort ordered none gave lost = absurd none
  awaits s (Delete limit) ordered none gave lost =
      delete_cases s (λ r. AllAwaited r.1 → AllAwaited s) limit (λ busy later. later)
      (λ idle later. awaits_none s.retrieval s.store.content idle)
  awaits s e ordered none gave lost = λ later. later

  -- where events end a retrieval, all that it had still to give was given or overwritten
  all_given : (s : State) (es : List Event) → IsOrdered s.store → All AbortsNone es → All D (over given s es)
      → All D (over overwritten s es)
      → (after s es).retrieval ≡ None → AllAwaited s
  all_given s [] ordered none gave lost ended =
      subst (λ (r : Option Retrieval). All (Awaited r) s.store.content) (sym ended) (λ k d within. tt)
  all_given s (e ∷ es) ordered none gave lost ended =
      let t = (step s e).1 in
      awaits s e ordered (All-head AbortsNone e es none) (All-front D (given s e) (over given t es) gave)
      (All-front D (overwritten s e) (over overwritten t es) lost)
      (all_given t es (stays_ordered s e ordered) (All-tail AbortsNone e es none)
      (All-back D (given s e) (over given t es) gave)
      (All-back D (overwritten s e) (over overwritten t es) lost) ended)

pub gives_range : (from to : ℕ) (s : State) (es : List Event) → IsState s → IsBegun from to s
    → AtEach (λ t e. IsOn t) s es
    → GivesRange from to s es
gives_range from to s es sound begun on =
    let gave = over given s es in
    let lost = over overwritten s es in
    let goes = rises s es (during Continues on_continues s es on) in
    let above = subst (λ (r : Option Retrieval). All (Above r) gave) begun goes.1 in
    let D : Stored → Type 0 = Contains (gave ++ lost) in
    let all = All-contains_itself (gave ++ lost) in
    record {
      held = during (λ t e. All (Contains t.store.content) (given t e)) (λ t e on. gives_held t e) s es on;
      within = All-weaker (λ p. IsWithin from to p × (0 < p.time)) (IsWithin from to) (λ p above. above.0) gave above;
      rising = goes.0;
      kept = deletes_none s es on;
      complete = λ none ended k d inside within.
          let awaited = all_given D s es (is_ordered s sound) none (All-front D gave lost all)
          (All-back D gave lost all) ended in
          (subst (λ (r : Option Retrieval). All (Awaited D r) s.store.content) begun awaited) k d inside
          (grind (arith, nat_tests, within.0, within.1, sound.store.from_one k d inside));
    }
