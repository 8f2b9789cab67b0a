-- What a dump gives, and what has left its store.
use Rattle.std.proofs.lemmas.List.Elements.{All-append, All-contains, All-contains_itself, Contains-append_left}
use Rattle.std.proofs.lemmas.List.Elements.{Contains-append_cases, Contains-append_right}
use Rattle.std.proofs.lemmas.List.{get_or-append-add}
use Rattle.std.proofs.lemmas.List.Sorted.{Contains-permutation}
use Rattle.std.proofs.lemmas.Bool.{le-leb, le-ltb, lt-leb, lt-ltb}
use Rattle.mm_carry.proofs.Words
use Words.{cases_lt, cond_both, append-nil, map-append, get_or_append_left, All-nil, All-weaker, flat_map, IsRising}
use Words.{not, Stored, State, IsState, step, asked, IsLegal, IsRun, replay, Entry, Event, Offer, IsDumpOf, ◌≡◌, ◌⊎◌}
use Words.{inl, inr, ℕ, ◌+◌, ◌<◌, ltb, leb, List, [], ◌∷◌, ◌++◌, length, All, Contains, refl, sym, ap, subst, ◌∙◌}
use Words.{arith, length-append, AllPairs-append, IsPermutation-filter_both, order_dumps, aborted, IsBrokenOrder}
use Words.{HaveLeft, IsOlder, taken_out, Reply, over-append, is_ordered, give_later}
use Rattle.mm_desk.specs.declared.event.Event.TheVariants.{Next, Delete}
use Rattle.mm_desk.specs.Fates.{found_in, given, after, over}
use Rattle.mm_desk.specs.Orders.{ended, removed, given as giving, IsOrderOf}
use Rattle.mm_desk.specs.Retrievals.{oldest_over}
use Rattle.mm_desk.proofs.Cases.{put_cases, delete_cases, quiet_leaves}
use Rattle.mm_desk.specs.declared.reply.Reply.TheVariants as reply

-- what was asked in a log leads to its replay
pub replayed : (s : State) (log : List Entry) → after s (asked log) ≡ replay s log
replayed s [] = refl
replayed s (e ∷ es) = replayed (step s e.event).1 es

-- what events do, and what others do from where they lead
pub over_then : {X : Type 0} (each : State → Event → List X) (s mid : State) (es fs : List Event) → mid ≡ after s es
    → over each s (es ++ fs) ≡ over each s es ++ over each mid fs
over_then each s mid es fs leads =
    over-append each s es fs ∙ ap (λ (u : State). over each s es ++ over each u fs) (sym leads)

-- what the events of two logs after one another do
pub over_both : {X : Type 0} (each : State → Event → List X) (s : State) (first second : List Entry)
    → over each s (asked (first ++ second)) ≡ over each s (asked first) ++ over each (replay s first) (asked second)
over_both each s first second =
    ap (over each s) (map-append (λ (e : Entry). e.event) first second)
    ∙ over_then each s (replay s first) (asked first) (asked second) (sym (replayed s first))

-- what a reply to an event gives of a retrieval
abbrev found_by : Event → Reply → List Stored
found_by Next (reply.Given answer) = found_in answer
found_by event answer = []

gives_by : (s : State) (event : Event) (answer : Reply) → answer ≡ (step s event).0
    → given s event ≡ found_by event answer
gives_by s Next answer is = ap (found_by Next) (sym is)
gives_by s event answer is = refl

-- what the replies of a log give
abbrev found : List Entry → List Stored
found log = flat_map (λ e. found_by e.event e.reply) log

gives_found : (s : State) (log : List Entry) → IsLegal s log → over given s (asked log) ≡ found log
gives_found s [] legal = refl
gives_found s (e ∷ es) legal =
    let here = gives_by s e.event e.reply legal.0 in
    let rest = gives_found (step s e.event).1 es legal.1 in
    λ i. here i ++ rest i

found_given : (seat : ℕ) (gs : List Stored) (more : List Entry) → found (giving seat gs ++ more) ≡ gs ++ found more
found_given seat [] more = refl
found_given seat (g ∷ gs) more = ap (λ (ps : List Stored). g ∷ ps) (found_given seat gs more)

found_at_end : (seat wanted count : ℕ) (gs : List Stored) → found (ended seat wanted gs ∷ removed seat gs count) ≡ []
found_at_end seat wanted count gs =
    cond_both (ltb (length gs) wanted) _ _ (λ (e : Entry). found (e ∷ removed seat gs count) ≡ []) (λ fewer. none gs)
    (λ enough. none gs)
  where
    none : (gs : List Stored) → found (removed seat gs count) ≡ []
    none [] = refl
    none (g ∷ gs) = refl

-- what a broken order gives
pub broken_gives : (s : State) (seat wanted : ℕ) (gave : List Stored) (calls : List Entry)
    → IsBrokenOrder seat wanted gave calls → IsLegal s calls → over given s (asked calls) ≡ gave
broken_gives s seat wanted gave calls order legal =
    gives_found s calls legal ∙ ap found order.are ∙ found_given seat gave (aborted seat ∷ []) ∙ append-nil gave

-- of a time and a limit one is the later
later_not_early : (limit time : ℕ) → ltb limit time ≡ not (leb time limit)
later_not_early limit time = elim (cases_lt limit time) [
  | inl later ↦ rw (lt-ltb limit time later, lt-leb time limit later) refl
  | inr early ↦ rw (le-ltb limit time early, le-leb time limit early) refl
]

-- what a store held, an event takes out of it, or the store still holds
out_or_held : (s : State) (e : Event) (p : Stored) → Contains s.store.content p
    → Contains (taken_out s e) p ⊎ Contains (step s e).1.store.content p
out_or_held s (Offer now packet) p held =
    put_cases s (λ r. Contains (oldest_over r.0 s.store.content) p ⊎ Contains r.1.store.content p) now packet
    (λ fault other. inr held) (λ new is free. inr (Contains-append_left s.store.content (new ∷ []) p held))
    (λ new is oldest later o. elim (Contains-append_cases (oldest ∷ []) later p (rw o.held at held)) [
      | inl first ↦ inl (rw o.held first)
      | inr more ↦ inr (Contains-append_left later (new ∷ []) p more)
    ])
    (λ stuck. inr held)
out_or_held s (Delete limit) p held =
    delete_cases s (λ r. Contains (taken_out s (Delete limit)) p ⊎ Contains r.1.store.content p) limit
    (λ busy. inr held)
    (λ idle. rw idle (Contains-append_cases _ _ p (Contains-permutation _ _ p (IsPermutation-filter_both
    (λ (q : Stored). leb q.time limit) (λ q. ltb limit q.time) (λ q. later_not_early limit q.time) s.store.content)
    held)))
out_or_held s e p held = inr (quiet_leaves s e tt (λ t. Contains t.store.content p) (λ storage retrieval. held))

all_out_or_held : (s : State) (es : List Event) (p : Stored) → Contains s.store.content p
    → Contains (over taken_out s es) p ⊎ Contains (after s es).store.content p
all_out_or_held s [] p held = inr held
all_out_or_held s (e ∷ es) p held =
    let rest = over taken_out (step s e).1 es in
    elim (out_or_held s e p held) [
      | inl out ↦ inl (Contains-append_left (taken_out s e) rest p out)
      | inr kept ↦ elim (all_out_or_held (step s e).1 es p kept) [
        | inl later ↦ inl (Contains-append_right (taken_out s e) rest p later)
        | inr still ↦ inr still
      ]
    ]

-- where times rise, no packet stands in two lists after one another
pub apart : (xs ys : List Stored) (p : Stored) → IsRising (xs ++ ys) → Contains xs p → Contains ys p → ⊥
apart xs ys p rising one two =
    let first = get_or_append_left xs ys p one.0 one.1 ∙ one.2 in
    let second = get_or-append-add xs ys two.0 p ∙ two.2 in
    let less = rising one.0 (length xs + two.0) p (omega (arith, one.1)) (omega (arith, two.1, length-append xs ys)) in
    omega (arith, less, ap (λ (q : Stored). q.time) first, ap (λ (q : Stored). q.time) second)

-- nothing has left a store
pub none_left : (s : State) (es : List Event) → HaveLeft s es []
none_left s es =
    record { given_are = All-nil _; out = All-nil _; rising = λ i j d before within. absurd (omega arith) }

-- times rise in the front of a list in which they rise
pub rising_front : (gave rest : List Stored) → IsRising (gave ++ rest) → IsRising gave
rising_front gave rest all i j d before within =
    let first : i < length gave = omega arith in
    rw (← get_or_append_left gave rest d i first, ← get_or_append_left gave rest d j within)
    (all i j d before (omega (arith, length-append gave rest)))

-- what a dump does: it gives this, and all of it has left the store
pub record DumpDoes (s : State) (gave : List Stored) (calls : List Entry) : Type 0 where
  pub gives : over given s (asked calls) ≡ gave
  pub gone : HaveLeft s (asked calls) gave

pub order_does : (s t : State) (seat wanted : ℕ) (gave : List Stored) (calls : List Entry) → IsState s
    → IsOrderOf seat wanted gave calls → IsRun s calls t → DumpDoes s gave calls
order_does s t seat wanted gave calls sound order run =
    let held = (order_dumps s t seat wanted gave calls sound order run).oldest in
    let rising = subst IsRising held sound.store.rising in
    let leads : after s (asked calls) ≡ t = replayed s calls ∙ sym run.leaves in
    let gives : over given s (asked calls) ≡ gave =
    gives_found s calls run.legal ∙ ap found order.are
    ∙ found_given seat gave (ended seat wanted gave ∷ removed seat gave order.count)
    ∙ ap (λ (ps : List Stored). gave ++ ps) (found_at_end seat wanted order.count gave) ∙ append-nil gave in
    record {
      gives = gives;
      gone = record {
        given_are = subst (λ (ps : List Stored). All (Contains ps) gave) (sym gives) (All-contains_itself gave);
        out = All-weaker (Contains gave) (Contains (over taken_out s (asked calls))) (λ p at.
            elim (all_out_or_held s (asked calls) p (rw held (Contains-append_left gave t.store.content p at))) [
              | inl out ↦ out
              | inr still ↦ absurd (apart gave t.store.content p rising at (rw leads at still))
            ]) gave (All-contains_itself gave);
        rising = rising_front gave t.store.content rising;
      };
    }

pub dump_does : (s t : State) (wanted : ℕ) (gave : List Stored) (calls : List Entry) → IsState s
    → IsDumpOf wanted gave calls → IsRun s calls t → DumpDoes s gave calls
dump_does s t wanted gave calls sound is run = elim (cases_lt 0 wanted) [
  | inl some ↦ let order = is.whole (omega arith) in order_does s t order.0 wanted gave calls sound order.1 run
  | inr none ↦
      let nothing = is.none (omega arith) in
      rw (nothing.0, nothing.1) (record { gives = refl; gone = none_left s [] })
]

-- events after one another
pub after-append : (s : State) (es more : List Event) → after s (es ++ more) ≡ after (after s es) more
after-append s [] more = refl
after-append s (e ∷ es) more = after-append (step s e).1 es more

-- what events do they do after others too
pub done_later : (each : State → Event → List Stored) (s : State) (es now : List Event) (new : List Stored)
    → All (Contains (over each (after s es) now)) new → All (Contains (over each s (es ++ now))) new
done_later each s es now new done =
    let here = over each (after s es) now in
    subst (λ (ps : List Stored). All (Contains ps) new) (sym (over-append each s es now))
    (All-weaker (Contains here) (Contains (over each s es ++ here))
    (λ p at. Contains-append_right (over each s es) here p at) new done)

-- the times of what has left a store, and of what is given later, rise
pub rising_more : (s : State) (es now : List Event) (past new : List Stored) → IsState s → HaveLeft s es past
    → All (Contains (over given (after s es) now)) new → IsRising new → IsRising (past ++ new)
rising_more s es now past new sound before given_are rising =
    AllPairs-append (λ p q. p.time < q.time) past new before.rising rising
    (All-weaker (Contains out) (IsOlder new) older past before.out)
  where
    out : List Stored
    out = over taken_out s es

    older : (p : Stored) → Contains out p → IsOlder new p
    older p at =
        let gave = over given (after s es) now in
        let Later : Stored → Type 0 = λ q. p.time < q.time in
        All-weaker (Contains gave) Later
        (λ q in_gave. All-contains Later gave q
        (All-contains (IsOlder gave) out p (give_later s es now (is_ordered s sound)) at) in_gave) new given_are

-- what has left a store, and what leaves it later
pub left_more : (s : State) (es now : List Event) (past new : List Stored) → IsState s → HaveLeft s es past
    → HaveLeft (after s es) now new → HaveLeft s (es ++ now) (past ++ new)
left_more s es now past new sound before here = record {
  given_are = both given before.given_are here.given_are;
  out = both taken_out before.out here.out;
  rising = rising_more s es now past new sound before here.given_are here.rising;
}
  where
    both : (each : State → Event → List Stored) → All (Contains (over each s es)) past
        → All (Contains (over each (after s es) now)) new → All (Contains (over each s (es ++ now))) (past ++ new)
    both each first second =
        let a = over each s es in
        let b = over each (after s es) now in
        let earlier = All-weaker (Contains a) (Contains (a ++ b)) (λ p at. Contains-append_left a b p at) past first in
        All-append (Contains (over each s (es ++ now))) past new
        (subst (λ (ps : List Stored). All (Contains ps) past) (sym (over-append each s es now)) earlier)
        (done_later each s es now new second)
