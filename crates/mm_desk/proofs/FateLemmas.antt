-- What becomes of packets: one event first, then any list of them.
use Rattle.mm_desk.proofs.Words.{◌≡◌, ℕ, ◌+◌, ◌<◌, ◌≤◌, Bool, true, ltb, leb, List, [], ◌∷◌, ◌++◌, length, filter, All}
use Rattle.mm_desk.proofs.Words.{Contains, refl, arith, length-append, append_assoc, sym, ap, ◌∙◌, Option, Some}
use Rattle.mm_desk.proofs.Words.{None, Result, IsPermutation, is_some, nat_tests, length-filter}
use Rattle.mm_desk.proofs.Words.{append-nil, map-append, length-map, All-nil, All-cons, All-head, All-tail, All-append}
use Rattle.mm_desk.proofs.Words.{All-weaker, All-contains, All-contains_itself, All-front, All-back, AllPairs-cons}
use Rattle.mm_desk.proofs.Words.{SpacePacket, Stored, Event, Offer, Begin, Next, Abort, Delete, Offered, Returned}
use Rattle.mm_desk.proofs.Words.{Retrieval, IsRising, is_in, kept_after, count_up_to, packets_of, left_out, found_in}
use Rattle.mm_desk.proofs.Words.{given_up, deleted, given, over, after, State, step, AtEach, IsWithin}
use Rattle.std.proofs.lemmas.List.Sorted.{IsPermutation-refl, IsPermutation-sym, IsPermutation-trans}
use Rattle.std.proofs.lemmas.List.Sorted.{IsPermutation-to_front, IsPermutation-append_left, IsPermutation-append_right}
use Rattle.std.proofs.lemmas.List.Sorted.{IsPermutation-append_comm, IsPermutation-filter_both, IsPermutation-map}
use Rattle.std.proofs.lemmas.List.Sorted.{All-permutation}
use Rattle.mm_base.proofs.Elements.{All-unmapped}
use Rattle.mm_desk.specs.Fates.{accepted, taken, known, IsConserved, BeginsNone}
use Rattle.mm_desk.proofs.Cases.{offer_cases, put_cases, begin_cases, next_cases, abort_cases, delete_cases}
use Rattle.mm_desk.proofs.Cases.{quiet_leaves}
use Rattle.mm_desk.proofs.PlaceLemmas.{find-some}

-- what one event does: what was held and what it takes is what it deletes, what is held then, and what it gives up
record Moves (s t : State) (took gone left : List SpacePacket) : Type 0 where
  packets : IsPermutation (packets_of s.store.content ++ took) (gone ++ packets_of t.store.content ++ left)
  lost : t.lost ≡ s.lost + length left
  deleted : t.deleted ≡ s.deleted + length gone

-- what an answer to an offer and the state after it tell
abbrev ByOffer : State → SpacePacket → Result Offered Returned × State → Type 0
ByOffer s packet r = Moves s r.1 (accepted packet r.0) [] (left_out r.0)

module _ (s : State) where
  -- nothing is taken, deleted or given up
  stays : (storage : Bool) (retrieval : Option Retrieval)
      → Moves s (record s { storage = storage; retrieval = retrieval }) [] [] []
  stays storage retrieval = record { packets = IsPermutation-refl _; lost = omega arith; deleted = omega arith }

  -- the packets up to a limit and those after it are all
  parted : (limit : ℕ) (held : List Stored) → IsPermutation (packets_of held ++ [])
      (packets_of (filter (λ p. leb p.time limit) held) ++ packets_of (kept_after limit held) ++ [])
  parted limit held =
      let both = IsPermutation-filter_both (λ (p : Stored). leb p.time limit) (λ (p : Stored). ltb limit p.time)
      (λ p. grind (arith, nat_tests)) held in
      let mapped = IsPermutation-map (λ (p : Stored). p.packet) _ _ both in
      simp append-nil (simp map-append at mapped)

  -- as many packets are deleted as are counted
  counted : (limit : ℕ) (held : List Stored) → count_up_to limit held ≡ length
      (packets_of (filter (λ p. leb p.time limit) held))
  counted limit held = simp (length-map, length-filter)

  by_event : (e : Event) → Moves s (step s e).1 (taken s e) (deleted s e) (given_up s e)
  by_event (Offer now packet) =
      put_cases s (ByOffer s packet) now packet (λ fault other. stays _ _)
      (λ new is free. rw (← is.packet) (record {
        packets = rw (append-nil, map-append)
            (IsPermutation-refl _);
        lost = refl;
        deleted = omega arith;
      }))
      (λ new is oldest later o.
      let packets = IsPermutation-sym _ _ (IsPermutation-to_front
      (packets_of later ++ new.packet ∷ []) oldest.packet) in
      rw (← is.packet) (record { packets = rw (o.held, map-append) packets; lost = refl; deleted = omega arith }))
      (λ full. record { packets = IsPermutation-refl _; lost = refl; deleted = omega arith })
  by_event (Delete limit) =
      delete_cases s (λ r. Moves s r.1 [] (deleted s (Delete limit)) []) limit (λ busy. rw busy (stays _ _))
      (λ idle. rw idle (record {
        packets = parted limit s.store.content;
        lost = omega arith;
        deleted = omega
            (arith, counted limit s.store.content);
      }))
  by_event e = quiet_leaves s e tt (λ t. Moves s t [] [] []) stays

-- two moves after one another
module _ {X : Type 0} (held took gone kept left more deleted last out : List X) where
  pub joined : IsPermutation (held ++ took) (gone ++ kept ++ left)
      → IsPermutation (kept ++ more) (deleted ++ last ++ out)
      → IsPermutation (held ++ (took ++ more)) (gone ++ deleted ++ last ++ (left ++ out))
  joined first second =
      let widened = simp append_assoc at (IsPermutation-append_left more _ _ first) in
      let turned = IsPermutation-append_right gone _ _ (IsPermutation-append_right kept _ _
      (IsPermutation-append_comm left more)) in
      let moved = simp append_assoc at (IsPermutation-append_right gone _ _
      (IsPermutation-append_left left _ _ second)) in
      let back = simp append_assoc at (IsPermutation-append_right gone _ _
      (IsPermutation-append_right (deleted ++ last) _ _ (IsPermutation-append_comm out left))) in
      simp append_assoc (IsPermutation-trans _ _ _ widened (IsPermutation-trans _ _ _ turned
      (IsPermutation-trans _ _ _ moved back)))

pub conserved : (s : State) (es : List Event) → IsConserved s es
conserved s [] = record { packets = IsPermutation-refl _; lost = omega arith; deleted = omega arith }
conserved s (e ∷ es) =
    let here = by_event s e in
    let rest = conserved (step s e).1 es in
    record {
      packets = joined (packets_of s.store.content) (taken s e) (deleted s e) (packets_of (step s e).1.store.content)
          (given_up s e) _ _ _ _ here.packets rest.packets;
      lost = omega (arith, here.lost, rest.lost, length-append (given_up s e) (over given_up (step s e).1 es));
      deleted = omega (arith, here.deleted, rest.deleted, length-append (deleted s e) (over deleted (step s e).1 es));
    }

-- a packet that a search finds is in the range, and later than the one given last
is_in-parts : (from to after : ℕ) (p : Stored) → is_in from to after p ≡ true
    → IsWithin from to p × (after < p.time)
is_in-parts from to after p is =
    let low : from ≤ p.time = grind (arith, nat_tests, is) in
    let high : p.time ≤ to = grind (arith, nat_tests, is) in
    let later : after < p.time = grind (arith, nat_tests, is) in
    ((low, high), later)

-- what an event gives is held
pub gives_held : (s : State) (e : Event) → All (Contains s.store.content) (given s e)
gives_held s Next =
    let content = s.store.content in
    next_cases s (λ r. All (Contains content) (found_in r.0)) (All-nil _)
    (λ r p on found. All-cons (Contains content) p []
    (find-some (Contains content) (is_in r.from r.to r.after) content p (All-contains_itself content) found).1
    (All-nil _))
    (All-nil _)
gives_held s e = All-nil _

-- what events do after one another
pub over-append : {X : Type 0} (each : State → Event → List X) (s : State) (es more : List Event)
    → over each s (es ++ more) ≡ over each s es ++ over each (after s es) more
over-append each s [] more = refl
over-append each s (e ∷ es) more =
    ap (λ l. each s e ++ l) (over-append each (step s e).1 es more)
    ∙ sym (append_assoc (each s e) (over each (step s e).1 es) (over each (after (step s e).1 es) more))

module _ (pool : List SpacePacket) where
  abbrev IsIn : Stored → Type 0
  IsIn p = Contains pool p.packet

  -- what an event gives is in the pool where all that is held is
  given_in : (s : State) (e : Event) → All (Contains pool) (packets_of s.store.content) → All IsIn (given s e)
  given_in s e held =
      let all = All-unmapped (Contains pool) (λ p. p.packet) s.store.content held in
      All-weaker (Contains s.store.content) IsIn (λ p at. All-contains IsIn s.store.content p all at) (given s e)
      (gives_held s e)

  all_given_in : (s : State) (es : List Event) → All (Contains pool) (packets_of s.store.content)
      → All (Contains pool) (over taken s es) → All IsIn (over given s es)
  all_given_in s [] held came = All-nil IsIn
  all_given_in s (e ∷ es) held came =
      let next = (step s e).1 in
      let all = All-append (Contains pool) (packets_of s.store.content) (taken s e) held
      (All-front (Contains pool) (taken s e) (over taken next es) came) in
      let moved = All-permutation (Contains pool) _ _ (by_event s e).packets all in
      let then = All-back (Contains pool) (deleted s e) (packets_of next.store.content)
      (All-front (Contains pool) (deleted s e ++ packets_of next.store.content) (given_up s e) moved) in
      All-append IsIn (given s e) (over given next es) (given_in s e held)
      (all_given_in next es then (All-back (Contains pool) (taken s e) (over taken next es) came))

pub gives_known : (s : State) (es : List Event) → All (λ p. Contains (known s es) p.packet) (over given s es)
gives_known s es =
    let all = All-contains_itself (known s es) in
    all_given_in (known s es) s es (All-front (Contains (known s es)) (packets_of s.store.content)
    (over taken s es) all) (All-back (Contains (known s es)) (packets_of s.store.content) (over taken s es) all)

-- a packet that the retrieval may still give is in its range, and later than the one that it gave last
abbrev pub Above : Option Retrieval → Stored → Type 0
Above (Some r) p = IsWithin r.from r.to p × (r.after < p.time)
Above None p = ⊥

-- packets may be given from a state on: their times rise, and all are above what was given before
abbrev pub MayGive : State → List Stored → Type 0
MayGive s gave = IsRising gave × All (Above s.retrieval) gave

-- where these may be given from the end of a retrieval on, they are none
pub at_end : (s : State) (later : List Stored) → MayGive (record s { retrieval = None }) later → MayGive s later
at_end s later may = (may.0, All-weaker (λ p. ⊥) (Above s.retrieval) (λ p never. absurd never) later may.1)

-- an event begins no retrieval: where it asks for one, another is on
abbrev pub Continues : State → Event → Type 0
Continues s (Begin from to) = is_some s.retrieval ≡ true
Continues s other = Unit {0}

-- what an event that begins no retrieval gives may be given before all that may be given after it
pub by_calls : (s : State) (e : Event) → Continues s e → (rest : List Stored) → MayGive (step s e).1 rest
    → MayGive s (given s e ++ rest)
by_calls s (Offer now packet) goes rest =
    offer_cases s (λ r. MayGive r.1 rest → MayGive s rest) now packet (λ fault other may. may) (λ last offered may. may)
by_calls s (Begin from to) goes rest =
    begin_cases s (λ r. MayGive r.1 rest → MayGive s rest) from to (λ fault other may. may) (λ idle. absurd cc)
by_calls s Next goes rest =
    next_cases s (λ r. MayGive r.1 rest → MayGive s (found_in r.0 ++ rest)) (λ may. may)
    (λ r p on found may.
    let is = (find-some (λ q. Unit {0}) (is_in r.from r.to r.after) s.store.content p (λ k d within. tt) found).0 in
    let here = is_in-parts r.from r.to r.after p is in
    let Later : Stored → Type 0 = λ q. IsWithin r.from r.to q × (p.time < q.time) in
    let Still : Stored → Type 0 = λ q. IsWithin r.from r.to q × (r.after < q.time) in
    let above = All-weaker Later Still (λ q less. (less.0, omega (arith, here.1, less.1))) rest may.1 in
    let later = All-weaker Later (λ (q : Stored). p.time < q.time) (λ q less. less.1) rest may.1 in
    (AllPairs-cons (λ p q. p.time < q.time) p rest later may.0, rw on (All-cons Still p rest here above)))
    (at_end s rest)
by_calls s Abort goes rest =
    abort_cases s (λ r. MayGive r.1 rest → MayGive s rest) (λ may. may) (at_end s rest)
by_calls s (Delete limit) goes rest =
    delete_cases s (λ r. MayGive r.1 rest → MayGive s rest) limit (λ busy may. may) (λ idle may. may)
by_calls s e goes rest = λ may. may

-- what all events give is in the range and rises, above what was given before
pub rises : (s : State) (es : List Event) → AtEach Continues s es → MayGive s (over given s es)
rises s [] goes = (λ i j d before within. absurd (omega arith), All-nil _)
rises s (e ∷ es) goes = by_calls s e goes.0 _ (rises (step s e).1 es goes.1)

-- events that begin no retrieval
pub continues : (s : State) (e : Event) → BeginsNone e → Continues s e
continues s (Begin from to) none = absurd none
continues s e none = tt

all_continue : (s : State) (es : List Event) → All BeginsNone es → AtEach Continues s es
all_continue s [] none = tt
all_continue s (e ∷ es) none =
    (continues s e (All-head BeginsNone e es none), all_continue (step s e).1 es (All-tail BeginsNone e es none))

pub gives_in_order : (s : State) (es : List Event) → All BeginsNone es → IsRising (over given s es)
gives_in_order s es none = (rises s es (all_continue s es none)).0
