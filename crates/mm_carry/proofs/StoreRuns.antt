-- What a run did with each store, whole or halted, and what runs that follow one another send.
use Rattle.std.proofs.lemmas.List.Elements.{All-append, All-contains_itself, Contains-append_cases}
use Rattle.std.proofs.lemmas.List.Elements.{Contains-append_left, Contains-append_right}
use Rattle.mm_carry.proofs.Words
use Words.{cases_lt, All-nil, All-weaker, append-nil, length-map, find_at, slice_get, Option, Some, None, IsRising}
use Words.{BrokenOrdersChangeNothing, given_oldest, Stored, State, IsState, Held, has_id, labels_of, states_of}
use Words.{opening_at, asked, Event, Sent, row, IsLegal, Course, EndedAs, OrderBroken, HasTried, MayBegin, meets}
use Words.{RunInput, Table, place_in_memory, store_state, recording_in, step_orders, RunState, IsStep, IsHaltedIn, Stop}
use Words.{Supply, Reported, ◌≡◌, ◌⊎◌, inl, inr, ℕ, ◌+◌, ◌-◌, ◌<◌, List, [], ◌∷◌, ◌++◌, length, map, true, refl, sym}
use Words.{ap, subst, ◌∙◌, arith, append_assoc, All, Contains, HasLegalOffers, run_start_of, slice_get_within, aborted}
use Words.{over_steps, HaveLeft}
use Rattle.mm_desk.specs.Fates.{given, after, over}
use Rattle.mm_carry.specs.declared.requirement.Requirement.TheVariants.{Size}
use Rattle.mm_carry.specs.Following.{StoreRun, IsStoreRun, AreFollowing, all_of, whole_of, broken_of, RunsSendOnce}
use Rattle.mm_carry.specs.Following.{where_whole, where_broken, store_run, StepsAreStoreRuns}
use Rattle.mm_carry.proofs.DumpLemmas.{replayed, none_left, rising_front, order_does, broken_gives, apart, after-append}
use Rattle.mm_carry.proofs.DumpLemmas.{done_later, rising_more, left_more}
use Rattle.mm_carry.proofs.Parts.{as_many}
use Rattle.mm_carry.proofs.StoresReady.{state_holds}

-- a run of a store from one state to another
abbrev from_to : State → State → List Stored → List Stored → StoreRun
from_to s t gave broke = record { before = s; left = t; gave = gave; broke = broke }

-- events without a broken order are a run
whole_run : (s t : State) (es : List Event) (gave : List Stored) → t ≡ after s es → HaveLeft s es gave
    → IsStoreRun (from_to s t gave [])
whole_run s t es gave leads gone = record {
  events = es;
  leads = leads;
  gone = gone;
  given_are = All-nil _;
  rising = subst IsRising (sym (append-nil gave)) gone.rising;
  newer = t.store.content;
  oldest = refl;
}

module _ (s : State) (sound : IsState s) where
  -- events and then a run are a run, which sent what had left the store by the events too
  run_after : (es : List Event) (past : List Stored) → HaveLeft s es past → (between : List Event) (r : StoreRun)
      → r.before ≡ after (after s es) between → IsStoreRun r → IsStoreRun (from_to s r.left (past ++ r.gave) r.broke)
  run_after es past gone between r is run =
      let idle = es ++ between in
      let found : r.before ≡ after s idle = is ∙ sym (after-append s es between) in
      let kept = subst (HaveLeft s idle) (append-nil past)
      (left_more s es between past [] sound gone (none_left (after s es) between)) in
      let left = subst (λ (u : State). HaveLeft u run.events r.gave) found run.gone in
      let given_are = subst (λ (u : State). All (Contains (over given u run.events)) r.broke) found run.given_are in
      record {
        events = idle ++ run.events;
        leads = run.leads ∙ ap (λ (u : State). after u run.events) found ∙ sym (after-append s idle run.events);
        gone = left_more s idle run.events past r.gave sound kept left;
        given_are = done_later given s idle run.events r.broke given_are;
        rising = subst IsRising (sym (append_assoc past r.gave r.broke))
            (rising_more s idle run.events past (r.gave ++ r.broke) sound kept
            (All-append (Contains (over given (after s idle) run.events)) r.gave r.broke left.given_are given_are)
            run.rising);
        newer = run.newer;
        oldest = run.oldest;
      }

  -- what whole orders sent over runs, after what has left the store already
  all_rising : (es : List Event) (past : List Stored) → HaveLeft s es past → (runs : List StoreRun)
      → AreFollowing (after s es) runs → IsRising (past ++ whole_of runs)
  all_rising es past gone [] follow = subst IsRising (sym (append-nil past)) gone.rising
  all_rising es past gone (r ∷ rs) follow =
      let more = run_after es past gone follow.0 r follow.1 follow.2 in
      subst IsRising (append_assoc past r.gave (whole_of rs)) (all_rising more.events (past ++ r.gave) more.gone rs
      (subst (λ (u : State). AreFollowing u rs) more.leads follow.3))

  -- and what one of the runs sent, after what whole orders of earlier runs sent
  run_rising : (es : List Event) (past : List Stored) → HaveLeft s es past → (early late : List StoreRun) (r : StoreRun)
      → AreFollowing (after s es) (early ++ r ∷ late) → IsRising (past ++ whole_of early ++ r.gave ++ r.broke)
  run_rising es past gone [] late r follow =
      subst (λ (ps : List Stored). IsRising (ps ++ r.gave ++ r.broke)) (sym (append-nil past))
      (run_after es past gone follow.0 r follow.1 follow.2).rising
  run_rising es past gone (e ∷ early) late r follow =
      let more = run_after es past gone follow.0 e follow.1 follow.2 in
      subst (λ (ps : List Stored). IsRising (ps ++ r.gave ++ r.broke)) (append_assoc past e.gave (whole_of early))
      (run_rising more.events (past ++ e.gave) more.gone early late r
      (subst (λ (u : State). AreFollowing u (early ++ r ∷ late)) more.leads follow.3))

-- what runs sent, a whole order or a broken one sent
by_order : (runs : List StoreRun) (p : Stored) → Contains (all_of runs) p
    → Contains (whole_of runs) p ⊎ Contains (broken_of runs) p
by_order [] p at = inl at
by_order (r ∷ rs) p at = elim (Contains-append_cases (r.gave ++ r.broke) (all_of rs) p at) [
  | inl here ↦ elim (Contains-append_cases r.gave r.broke p here) [
    | inl whole ↦ inl (Contains-append_left r.gave (whole_of rs) p whole)
    | inr broken ↦ inr (Contains-append_left r.broke (broken_of rs) p broken)
  ]
  | inr more ↦ elim (by_order rs p more) [
    | inl whole ↦ inl (Contains-append_right r.gave (whole_of rs) p whole)
    | inr broken ↦ inr (Contains-append_right r.broke (broken_of rs) p broken)
  ]
]

-- the law of runs that follow one another
pub send_once : RunsSendOnce
send_once s runs sound follow = record {
  whole = all_rising s sound [] [] (none_left s []) runs follow;
  later = rising;
  again = λ early late r are p now before. elim (by_order early p before) [
    | inl twice ↦ absurd (apart (whole_of early) (r.gave ++ r.broke) p
        (subst IsRising (append_assoc (whole_of early) r.gave r.broke) (rising early late r are)) twice now)
    | inr broken ↦ broken
  ];
}
  where
    rising : (early late : List StoreRun) (r : StoreRun) → runs ≡ early ++ r ∷ late
        → IsRising (whole_of early ++ r.gave ++ r.broke)
    rising early late r are =
        run_rising s sound [] [] (none_left s []) early late r (subst (AreFollowing s) are follow)

-- the store of a problem is in the memory, where the tests before a run passed
pub stands_there : {S L : Type 0} (m : RunInput) (plan : Table) (first : RunState S L)
    → MayBegin (run_start_of m plan first) → (s : ℕ) → s < length m.problem.rows
    → place_in_memory m s < length m.memory.stores
stands_there m plan first began s store =
    by_store (slice_get stores place) refl (subst (λ (o : Option Held). meets Size (row m.problem s) o ≡ true)
    (find_at (has_id (row m.problem s).id) stores) (began.sizes (omega arith) s store))
  where
    stores : List Held
    stores = m.memory.stores

    place : ℕ
    place = place_in_memory m s

    by_store : (found : Option Held) → slice_get stores place ≡ found → meets Size (row m.problem s) found ≡ true
        → place < length stores
    by_store (Some h) is shown = slice_get_within stores place h is
    by_store None is shown = absurd (cc shown)

-- what the order of a step did with its store
module _ (changes : BrokenOrdersChangeNothing) (taken : ℕ) (c : Course) (mid t : State) (sound : IsState mid)
    (tried : HasTried taken c mid t) where
  leads_on : t ≡ after mid (asked c.calls)
  leads_on = tried.run.leaves ∙ sym (replayed mid c.calls)

  -- an order that ended so
  ended_so : (why : Option OrderBroken) → EndedAs why c
      → IsStoreRun (from_to mid t (where_whole why c.sent) (where_broken why c.sent))
  ended_so None whole =
      whole_run mid t (asked c.calls) c.sent leads_on
      (order_does mid t c.seat c.order.amount c.sent c.calls sound whole.order tried.run).gone
  ended_so (Some why) broken =
      let gave = c.sent ++ c.unsent in
      let same = (changes mid t c.seat c.order.amount gave c.calls broken.order tried.run).0 in
      let held = given_oldest mid c.seat gave (aborted c.seat ∷ []) sound
      (subst (IsLegal mid) broken.order.are tried.run.legal) in
      let first = held.1 ∙ append_assoc c.sent c.unsent held.0 in
      let gives = broken_gives mid c.seat c.order.amount gave c.calls broken.order tried.run.legal in
      record {
        events = asked c.calls;
        leads = leads_on;
        gone = none_left mid (asked c.calls);
        given_are = subst (λ (ps : List Stored). All (Contains ps) c.sent) (sym gives)
            (All-weaker (Contains c.sent) (Contains gave) (λ p at. Contains-append_left c.sent c.unsent p at) c.sent
            (All-contains_itself c.sent));
        rising = rising_front c.sent (c.unsent ++ held.0) (subst IsRising first sound.store.rising);
        newer = c.unsent ++ held.0;
        oldest = ap (λ (u : State). u.store.content) same ∙ first;
      }

  -- no order
  no_order : (why : Option OrderBroken) → c.sent ≡ []
      → IsStoreRun (from_to mid t (where_whole why c.sent) (where_broken why c.sent))
  no_order None none = rw none (whole_run mid t (asked c.calls) [] leads_on (none_left _ _))
  no_order (Some why) none = rw none (whole_run mid t (asked c.calls) [] leads_on (none_left _ _))

  ordered : IsStoreRun (from_to mid t (where_whole c.why c.sent) (where_broken c.why c.sent))
  ordered = elim (cases_lt 0 taken) [
    | inl some ↦ ended_so c.why (tried.some some)
    | inr none ↦ no_order c.why (tried.none (omega arith)).1
  ]

module _ {L : Type 0} (sent : L → List Sent) (failed : L → ℕ) where
  -- the steps that are carried out
  pub steps_are : StepsAreStoreRuns sent failed
  steps_are m plan first steps now report ran s store =
      let done = ran.done in
      let account = done.accounted s store in
      let es = over_steps account.events steps in
      let gave = over_steps (done.gave (place_in_memory m s)) steps in
      let begun = ap (λ (held : List Held). store_state m held s) done.runs.first in
      whole_run _ _ es gave
      (ap (λ (held : List Held). store_state m held s) done.stores_are ∙ account.history.leads steps (omega arith)
      ∙ ap (λ (u : State). after u es) begun)
      (subst (λ (u : State). HaveLeft u es gave) begun account.history.gone)

  -- and the step that was halted
  module _ (changes : BrokenOrdersChangeNothing) (m : RunInput) (plan : Table) (first : RunState Supply L) (step : ℕ)
      (left : RunState Supply L) (stop : Stop) (report : Reported)
      (halted : IsHaltedIn sent failed m plan first step left stop report) (s : ℕ)
      (store : s < length m.problem.rows) (sound : IsState (store_state m m.memory.stores s)) where
    abbrev k : ℕ
    k = place_in_memory m s

    abbrev begun : State
    begun = store_state m m.memory.stores s

    abbrev is : IsStep sent failed (recording_in m step halted.before.stores) (step_orders m step) (Some stop)
        halted.before left
    is = halted.how

    abbrev whole : IsStoreRun (store_run m s halted.before.stores (over_steps (halted.ran.done.gave k) (step - 1)) [])
    whole = steps_are m plan first (step - 1) halted.before report halted.ran s store

    abbrev gave : List Stored
    gave = over_steps (halted.ran.done.gave k) (step - 1)

    -- the store stands in the memory before the dump of the step, and after it
    there : k < length is.mid
    there =
        let done = halted.ran.done in
        let before = as_many halted.before.stores m.memory.stores
        (ap labels_of done.stores_are ∙ done.runs.labels (step - 1) (omega arith)) in
        omega (
          arith,
          stands_there m plan first halted.ran.began s store,
          before,
          as_many is.mid halted.before.stores is.records.labels,
        )

    after_it : k < length left.stores
    after_it = omega (
      arith,
      there,
      as_many is.mid halted.before.stores is.records.labels,
      as_many left.stores halted.before.stores is.labels,
    )

    went : HasLegalOffers (map (λ run. run.offered k) is.records.runs)
        (opening_at (states_of halted.before.stores) k) (opening_at (states_of is.mid) k)
    went = is.records.logs k (omega (arith, there, length-map is.mid (λ (h : Held). h.state)))

    abbrev c : Course
    c = is.dumps.settled.course k

    order : IsStoreRun (from_to (opening_at (states_of is.mid) k) (opening_at (states_of left.stores) k)
        (where_whole c.why c.sent) (where_broken c.why c.sent))
    order = ordered changes _ c _ _ (state_holds IsState is.mid is.records.sound k there)
        (is.dumps.settled.stores k (omega (arith, after_it, length-map left.stores (λ (h : Held). h.state))))

    pub halted_is : IsStoreRun
        (store_run m s left.stores (gave ++ where_whole c.why c.sent) (where_broken c.why c.sent))
    halted_is =
        run_after begun sound whole.events gave whole.gone (asked went.log) _
        (went.run.leaves ∙ sym (replayed _ went.log) ∙ ap (λ (u : State). after u (asked went.log)) whole.leads) order
