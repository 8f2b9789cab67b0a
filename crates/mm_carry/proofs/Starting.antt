-- How a run begins, and what is known of it on the way.
use Rattle.mm_carry.proofs.Words
use Words.{BrokenOrdersChangeNothing, eqb-true, eqb-false, ltb-false, or_parts, both_ways, false_from_ne_true}
use Words.{length-map, get_or-map, append-nil, All-map, find_at, list_any_at, length-map-range_with_len}
use Words.{passes_at_first, position_or_len_is, prefix_len-le-length, slice_get-get_or, bytes_eq-Decides, list_any}
use Words.{position_or_len, slice_index, slice_index_or, bytes_eq, slice_get, Option, Some, None, is_some, not, ◌&&◌}
use Words.{IsTrue, vec_capacity, MAX_STEPS, MAX_STORES, StoreRow, SpacePacket, Dumping, IsDumping, row, no_row, place}
use Words.{FitsAt, amount, ReplaysKeepStates, State, IsState, opening_at, blank, Held, labels_of, states_of, AreHeld}
use Words.{has_id, store_of, named_of, held_as, is_clock_late, is_late, TakesAll, Supply, Sent, Reported, IsReady}
use Words.{given_to, orders_at, MayReport, IsReportedStep, AreWithinLimits, HasRun, IsHaltedIn, IsPlaceOf, ArePlaces}
use Words.{StandWithin, AllMeet, NoneUnknown, meets, meets_at, RunInput, offered, recording_in, step_of}
use Words.{place_in_memory, store_state, step_orders, RunState, with_supplies, AreReady, AreOrders, StepsDone}
use Words.{taken_amounts, RunContext, Stop, AreCounters, ◌≡◌, ◌≢◌, ℕ, zero, suc, ◌+◌, ◌-◌, ◌*◌, ◌<◌, ◌≤◌, ◌^◌, Bool}
use Words.{true, false, List, [], length, map, get_or, All, refl, sym, subst, ap, ◌∙◌, arith, StoreCounters}
use Rattle.mm_desk.specs.declared.state.Retrieval.{Retrieval}
use Rattle.mm_report.specs.declared.cause.TheConstants.{LATEST_START}
use Rattle.mm_carry.specs.declared.requirement.Requirement.{Requirement}
use Rattle.mm_carry.specs.declared.requirement.Requirement.TheVariants.{Ready, Size, Opening}
use Rattle.mm_carry.specs.declared.room.RunBuffers.{RunBuffers}
use Rattle.mm_desk.proofs.PlaceLemmas.{is_other}
use Rattle.mm_carry.proofs.AccountLemmas.{none_asked}
use Rattle.mm_carry.proofs.Counters.{by_counters}
use Rattle.mm_carry.proofs.Halts.{failed_link}
use Rattle.mm_carry.proofs.Drawing.{taken_fits}
use Rattle.mm_carry.proofs.Ordered.{named_once, may_order, wanted_in_all, orders_are}
use Rattle.mm_carry.proofs.Sharing.{shared}
use Rattle.mm_carry.proofs.Stepping.{keeps_store}
use Rattle.mm_carry.proofs.StepMore.{Footing, all_same, done_on}
use Rattle.mm_carry.proofs.Parts.{as_many, as_many_sources, stopped_of, never_refused, whole_step}
use Rattle.mm_carry.proofs.Placing.{no_held, places_differ}
use Rattle.mm_shared.proofs.Opening.{state_at}
use Rattle.mm_carry.proofs.StoresReady.{IsFar, state_holds, all_by, ready_after, offers_few}

-- the moment before the first step is early, and so is the last storage time of each store
pub record IsEarly (stores : List Held) (base : ℕ) : Type 0 where
  pub first : base ≤ LATEST_START
  pub last_times : All (λ h. h.state.store.last ≤ LATEST_START) stores

-- it is so where the clock is not too late
pub early_by : (stores : List Held) (base : ℕ) → is_clock_late stores base ≡ false → IsEarly stores base
early_by stores base in_time =
    let late = λ (h : Held). is_late h.state.store.last in
    let both = or_parts (is_late base) (list_any late stores) in_time in
    record {
      first = ltb-false LATEST_START base both.0;
      last_times = λ k d inside.
          let last = (get_or stores k d).state.store.last in
          ltb-false LATEST_START last (false_from_ne_true (is_late last) (λ found. both_ways (list_any late stores)
          both.1 (list_any_at late stores k d inside found)));
    }

-- the store at its place meets what the store with its identifier meets
meets_there : (requirement : Requirement) (q : Dumping) (stores : List Held) (s place : ℕ) → IsPlaceOf (row q s).id
    stores place → meets_at requirement q stores s ≡ true
    → meets requirement (row q s) (Some (get_or stores place no_held)) ≡ true
meets_there requirement q stores s place is shown =
    let within : place < length stores = is.within in
    let found : store_of (row q s).id stores ≡ Some (get_or stores place no_held) = find_at (has_id (row q s).id) stores
    ∙ ap (λ (k : ℕ). slice_get stores k) (sym is.is) ∙ slice_get-get_or stores place no_held within in
    rw (← found) shown

-- a store is ready
ready_of : (q : Dumping) (stores : List Held) (s place : ℕ) → IsPlaceOf (row q s).id stores place
    → meets_at Size q stores s ≡ true → meets_at Opening q stores s ≡ true
    → IsState (opening_at (states_of stores) place) → IsReady q s (opening_at (states_of stores) place)
ready_of q stores s place is sized opened sound =
    let here : opening_at (states_of stores) place ≡ (get_or stores place no_held).state =
    get_or-map (λ (h : Held). h.state) stores place no_held blank is.within in
    record {
      sound = sound;
      sized = ap (λ (u : State). u.store.size) here ∙ eqb-true _ _ (meets_there Size q stores s place is sized);
      holds = ap (λ (u : State). length u.store.content) here
          ∙ eqb-true _ _ (meets_there Opening q stores s place is opened);
    }

-- storage is on, and no retrieval
standing_gives : (b : Bool) (r : Option Retrieval) → (b && not (is_some r)) ≡ true → IsTrue b × (r ≡ None)
standing_gives true None is = (refl, refl)
standing_gives true (Some r) is = absurd (cc is)
standing_gives false r is = absurd (cc is)

-- each store of the memory is that of a row of the problem, and the first with its identifier
stands_at : (q : Dumping) (stores : List Held) → AreHeld stores → NoneUnknown q stores → (k : ℕ) (d : Held)
    → k < length stores → (s : ℕ) × (s < length q.rows) × (position_or_len (has_id (row q s).id) stores ≡ k)
stands_at q stores held known k d inside =
    let h = get_or stores k d in
    let s = place q h.id in
    let few : s ≤ length q.rows = prefix_len-le-length _ q.rows in
    let other : s ≢ length q.rows = eqb-false s (length q.rows) (known k d inside) in
    let within : s < length q.rows = omega (arith, few, other) in
    let id = (row q s).id in
    let same : id ≡ h.id = (bytes_eq-Decides _ h.id).0 (passes_at_first (λ (r : StoreRow). bytes_eq r.id h.id) q.rows
    no_row within) in
    let first = position_or_len_is (has_id id) stores k d (omega arith)
    (λ j before. is_other (get_or stores j d).id id (λ equal. held.named j k d before inside (equal ∙ same)))
    (λ at. (bytes_eq-Decides _ id).1 (sym same)) in
    (s, within, first)

-- where all tests passed, each store of the memory is ready
pub all_ready : (q : Dumping) (stores : List Held) → AreHeld stores → AllMeet Ready q stores → NoneUnknown q stores
    → All (λ h. IsState h.state) stores → AreReady stores
all_ready q stores held stores_ready known sound = record {
  sound = sound;
  storage = λ k d inside. (each k d inside).0;
  idle = λ k d inside. (each k d inside).1;
}
  where
    each : (k : ℕ) (d : Held) → k < length stores → IsTrue (get_or stores k d).state.storage
        × ((get_or stores k d).state.retrieval ≡ None)
    each k d inside =
        let h = get_or stores k d in
        let found = stands_at q stores held known k d inside in
        let id = (row q found.0).id in
        let is : store_of id stores ≡ Some h = find_at (has_id id) stores ∙ ap (λ (j : ℕ). slice_get stores j) found.2
        ∙ slice_get-get_or stores k d inside in
        standing_gives h.state.storage h.state.retrieval
        (subst (λ (o : Option Held). meets Ready (row q found.0) o ≡ true) is (stores_ready found.0 found.1))

-- before its first step a run has done nothing
pub done_first : {L : Type 0} (sent : L → List Sent) (failed : L → ℕ) (m : RunInput) (now : RunState Supply L)
    (report : Reported)
    → now.stores ≡ m.memory.stores → report
    ≡ record { ids = map (λ r. r.id) m.problem.rows; most = length m.problem.windows; steps = [] }
    → StepsDone sent failed m now.sources now.links 0 now report
done_first sent failed m now report stores is = record {
  stores = λ t. m.memory.stores;
  gave = λ k t. [];
  runs = record {
    first = refl;
    labels = λ t last. refl;
    runs = λ s t store first last. absurd (omega arith);
  };
  stores_are = stores;
  sources_are = record { nothing_left = λ t first last. absurd (omega arith); others = λ t outside. refl };
  links_are = record {
    took = λ t. [];
    once = λ k t first last. absurd (omega arith);
    links = λ t first last. absurd (omega arith);
    lists = λ l within. sym (append-nil (slice_index_or (map sent now.links) l []));
    no_failure = refl;
  };
  accounted = λ s store. none_asked (offered m s) (store_state m m.memory.stores s);
  shared = rw stores (shared m 0 (λ t. m.memory.stores) (λ k t. []) refl
      (λ s store. none_asked (offered m s) (store_state m m.memory.stores s))
      (λ s t store first last. absurd (omega (arith, first, last))));
  losses = λ s store. rw stores (omega arith);
  report_is = is;
  rows = ap (λ (r : Reported). r.steps) is;
  counted = rw (stores, is) (by_counters m (λ t. m.memory.stores) 0 refl m.problem m.amounts
      (λ s t store first last. absurd (omega (arith, first, last))));
}

-- counts after some steps: each store was offered, and has its last storage time, at most this far
abbrev bound_at : ℕ → ℕ
bound_at steps = 2 ^ 63 + (steps + 1) * 2 ^ 20

-- a run before one of its steps, whose stores stand at these places
module _ {L : Type 0} (sent : L → List Sent) (failed : L → ℕ) (run : RunContext) (places : List ℕ) (t : ℕ)
    (first : RunState Supply L) where
  abbrev pub q : Dumping
  q = run.problem.now

  abbrev pub input : RunInput
  input = given_to run first

  -- what is known of it
  pub record Underway (now : RunState Supply L) (report : Reported) : Type 0 where
    pub is : IsDumping q
    pub from_one : 1 ≤ t
    pub last : t ≤ length q.windows
    pub ran : HasRun sent failed input run.plan.now first (t - 1) now report
    pub footing : Footing input places
    pub labels : labels_of now.stores ≡ labels_of first.stores
    pub early : run.base + t < 2 ^ 64
    pub orders : AreOrders (length now.stores) (orders_at run places t)

  pub underway : (now : RunState Supply L) (report : Reported) → IsDumping q → ArePlaces q first.stores (length q.rows)
      places → All (λ h. IsState h.state) first.stores → 1 ≤ t
      → t ≤ length q.windows → labels_of now.stores ≡ labels_of first.stores → HasRun sent failed input run.plan.now
      first (t - 1) now report → Underway now report
  underway now report is stand sound from_one last labels ran =
      let apart = places_differ q first.stores places is.stores stand in
      let many = as_many now.stores first.stores labels in
      let base_early = (early_by first.stores run.base (ran.began.in_time (omega arith))).first in
      record {
        is = is;
        from_one = from_one;
        last = last;
        ran = ran;
        footing = record {
          stand_at = stand;
          apart = apart;
          ready = λ s store.
              let place = stand s store in
              rw (← place.is)
              (ready_of q first.stores s (slice_index places s) place (ran.began.sizes (omega arith) s store)
              (ran.began.openings (omega arith) s store)
              (state_holds IsState first.stores sound (slice_index places s) place.within));
          early = by_clock run.base (length q.windows) base_early is.steps.at_most;
          flyable = ran.began.flyable (omega arith);
        };
        labels = labels;
        early = by_clock run.base t base_early (omega (arith, last, is.steps.at_most));
        orders = may_order (amount run.plan.now) places t (length q.rows) (length now.stores) is.stores.at_most
            (λ s store. rw many (stand s store).within) apart;
      }
    where
      by_clock : (b s : ℕ) → b ≤ LATEST_START → s ≤ MAX_STEPS → b + s < 2 ^ 64
      by_clock b s early few = omega arith

  -- the step may be carried out and reported, with sources that give this
  pub may_report : {S : Type 0} (now : RunState S L) (given : List Supply) (counters : List StoreCounters)
      (buffers : RunBuffers) → length given ≡ length now.sources
      → Underway (with_supplies now given) buffers.report → AreHeld first.stores → All (λ l. failed l < 2 ^ 64 - 1)
      first.links
      → StandWithin (length q.rows) now.stores places → AreCounters now.stores places (length q.rows) counters
      → MAX_STORES ≤ vec_capacity buffers.orders → MayReport failed run places t counters buffers now
  may_report now given counters buffers same here held links stand counted room =
      let ran = here.ran in
      let many = as_many now.stores first.stores here.labels in
      let sources_many = as_many_sources 0 first.sources given
      (ran.done.sources_are.others 0 (λ first last. absurd (omega arith))) in
      let counts = ran.began.counts (omega arith) in
      let failures = ran.done.links_are.no_failure in
      let links_many : length now.links ≡ length first.links = sym (length-map now.links failed) ∙ ap length failures
      ∙ length-map first.links failed in
      let steps_many = ap (λ (r : Reported). length r.steps) ran.done.report_is ∙ length-map-range_with_len _ 1
      (t - 1) in
      record {
        shape = ran.began.shape (omega arith);
        first = here.from_one;
        last = here.last;
        stand = stand;
        counters_are = counted;
        carry = record {
          few = omega (arith, many, held.at_most);
          named = named_of now.stores (held_as now.stores first.stores here.labels held).named;
          ready = ran.ready;
          few_sources = omega (arith, same, sources_many, counts.few_sources);
          some_link = omega (arith, links_many, counts.some_link);
          few_links = omega (arith, links_many, counts.few_links);
          links = all_same (λ (n : ℕ). n < 2 ^ 64 - 1) failed first.links now.links failures links;
          orders_may = here.orders;
          early = here.early;
        };
        fit = rw (wanted_in_all (amount run.plan.now) places t (length q.rows))
            (ran.began.fits (omega arith) t here.from_one (omega (arith, here.last))).windowed;
        orders = room;
        ids = ap (λ (r : Reported). length r.ids) ran.done.report_is ∙ length-map q.rows (λ r. r.id);
        room = omega (arith, steps_many, ap (λ (r : Reported). r.most) ran.done.report_is, here.from_one, here.last);
      }

  module _ (now : RunState Supply L) (report : Reported) (here : Underway now report) where
    -- the orders of the step, by their stores' places in the memory
    orders_here : (u : ℕ) → orders_at run places u ≡ step_orders input u
    orders_here u = orders_are input places u (λ s store. (here.footing.stand_at s store).is)

    -- the recorders of the step know the identifiers of its stores
    ids_many : length (recording_in input t now.stores).ids ≡ length now.stores
    ids_many = length-map now.stores (λ (h : Held). h.id)

    -- one step more
    pub ran_on : ReplaysKeepStates → BrokenOrdersChangeNothing → (after : RunState Supply L) (new : Reported)
        → IsReportedStep sent failed run places t None report new now after
        → HasRun sent failed input run.plan.now first (t + 1 - 1) after new
    ran_on keep changes after new stepped = record {
      began = here.ran.began;
      done = done;
      fit = all_fit;
      ready = ready_after sent failed (recording_in input t now.stores) (orders_at run places t) None now after
          changes ids_many here.ran.ready stepped.step;
    }
      where
        done : StepsDone sent failed input first.sources first.links (t + 1 - 1) after new
        done =
            done_on sent failed input first.links places here.footing t here.from_one now after report here.ran.done
            (whole_step sent failed (recording_in input t now.stores) (orders_at run places t) now after stepped.step)
            keep (omega (arith, here.last)) new stepped.row

        -- what the links took in each of the steps fits
        all_fit : (u : ℕ) → 1 ≤ u → u ≤ t + 1 - 1 → FitsAt q (taken_amounts input done.gave done.links_are.took) u
        all_fit u from_one last =
            taken_fits input (t + 1 - 1) done.stores done.gave done.links_are.took done.runs u from_one last (λ s store.
            let once = rw ((here.footing.stand_at s store).is, orders_here u)
            at (named_once input.amounts places u (length q.rows) s here.footing.apart store) in
            omega (arith, once, done.links_are.once (place_in_memory input s) u from_one last))
            (here.ran.began.fits (omega arith) u from_one (omega (arith, last, here.last)))

    -- where counts are far from their end as the run begins, each store takes what comes
    module _ (keep : ReplaysKeepStates) (limits : AreWithinLimits (length q.windows) first.stores first.sources)
        (held : AreHeld first.stores) where
      begun_early : IsEarly first.stores run.base
      begun_early = early_by first.stores run.base (here.ran.began.in_time (omega arith))

      -- a store of the problem, after some of the steps
      abbrev state_after : (s n : ℕ) → State
      state_after s n = store_state input (here.ran.done.stores n) s

      -- it is sound, and its counts moved by less than 2^20 in each step
      far_along : (s n : ℕ) → s < length q.rows → n ≤ t - 1 → IsState (state_after s n)
          × IsFar (bound_at n) (state_after s n)
      far_along s zero store within =
          let there = here.footing.stand_at s store in
          let inside = subst (λ (k : ℕ). k < length first.stores) there.is there.within in
          let offered : (store_state input first.stores s).offered ≤ 2 ^ 63 =
          state_holds (λ (u : State). u.offered ≤ 2 ^ 63) first.stores limits.offered _ inside in
          let last = state_holds (λ (u : State). u.store.last ≤ LATEST_START) first.stores begun_early.last_times _
          inside in
          rw here.ran.done.runs.first (
            (here.footing.ready s store).sound,
            record { offered = omega (arith, offered); last = omega (arith, last) },
          )
      far_along s (suc n) store within =
          let was = far_along s n store (omega arith) in
          let came = map (λ gives. gives (suc n)) first.sources in
          let back : suc n - 1 ≡ n = omega arith in
          let went = rw back at (here.ran.done.runs.runs s (suc n) store (omega arith) within) in
          let kept = keeps_store keep (run.base + suc n) _ _ _ _ _ (omega (arith, here.early)) was.0
          (all_by (step_of input (suc n)) s came) went in
          let each = All-map (λ (ps : List SpacePacket). length ps ≤ 65535) (λ gives. gives (suc n)) first.sources
          (limits.few (suc n) (omega arith) (omega (arith, here.last))) in
          let number = offers_few (step_of input (suc n)) s 65535 came each in
          let many : length came ≡ length first.sources = length-map first.sources (λ gives. gives (suc n)) in
          let counts = here.ran.began.counts (omega arith) in (
            kept.sound,
            record {
              offered = omega (arith, kept.offered, was.1.offered, number, many, counts.few_sources);
              last = omega (
                arith,
                kept.last,
                was.1.last,
                number,
                many,
                counts.few_sources,
                begun_early.first,
                here.is.steps.at_most,
                here.last,
              );
            },
          )

      takes_here : TakesAll (recording_in input t now.stores) now.stores now.sources
      takes_here = record {
        moment = omega (arith, begun_early.first, here.is.steps.at_most, here.last);
        stores_are = λ k d inside.
            let within : k < length first.stores = omega (arith, inside, as_many now.stores first.stores here.labels) in
            let found = stands_at q first.stores held (here.ran.began.known (omega arith)) k no_held within in
            let is = ap (λ (held : List Held). store_state input held found.0) (sym here.ran.done.stores_are)
            ∙ ap (opening_at (states_of now.stores)) found.2 ∙ sym (state_at now.stores k d inside) in
            let far = subst (IsFar (bound_at (t - 1))) is (far_along found.0 (t - 1) found.1 (omega arith)).1 in
            record {
              storage = here.ran.ready.storage k d inside;
              last = omega (arith, far.last, here.is.steps.at_most, here.last);
              offered = omega (arith, far.offered, here.is.steps.at_most, here.last);
            };
        few =
            all_same (λ (ps : List SpacePacket). length ps ≤ 65535) (λ s. s t) first.sources now.sources
            (here.ran.done.sources_are.others t (λ from to. absurd (omega (arith, here.from_one, to))))
            (limits.few t here.from_one here.last);
      }

    -- the step was broken off
    pub halted_in : ReplaysKeepStates → BrokenOrdersChangeNothing → AreHeld first.stores
        → (after : RunState Supply L) (new : Reported) (stop : Stop)
        → IsReportedStep sent failed run places t (Some stop) report new now after
        → IsHaltedIn sent failed input run.plan.now first t after stop new
    halted_in keep changes held after new stop stepped =
        let e = recording_in input t now.stores in
        let orders = step_orders input t in
        let how = rw (orders_here t) at stepped.step in
        let stopped = stopped_of sent failed e orders stop now after how in
        record {
          from_one = here.from_one;
          last = here.last;
          before = now;
          ran = rw stepped.unreported here.ran;
          labels = stopped.labels ∙ here.labels;
          ready = ready_after sent failed e orders (Some stop) now after changes ids_many here.ran.ready how;
          stopped_is = stopped;
          within = stepped.within;
          how = how;
          failed_link = λ is_link. failed_link sent failed e orders stop now after changes
              (rw (orders_here t) at here.orders.places) is_link how;
          never_refused = λ limits. never_refused sent failed e orders stop now after how (takes_here keep limits held);
        }
