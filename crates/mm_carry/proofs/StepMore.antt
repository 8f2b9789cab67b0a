-- One step more of a run.
use Rattle.mm_carry.proofs.Words
use Words.{cases_eq, eq-eqb, ne_eqb, map_push, flat_map_more, length-map, get_or-map, All-map, range_with_len, flat_map}
use Words.{slice_index, slice_index_or, filter, All-unmapped, range_with_len_next, StoreRow, SpacePacket, row, no_row}
use Words.{stores, Stored, State, opening_at, Offer, Held, labels_of, states_of, id_at, is_routed, counters_of}
use Words.{RecordingContext, offers, recording, given_in, Supply, Sent, all_sent, Order, Reported, AtEach, IsReady}
use Words.{AsPlanned, IsRunOf, lost, ReplaysKeepStates, counts_from, rows_of, row_from, state_by}
use Words.{rows_by_counters, orders_of, ArePlaces, AreApart, RunInput, step_of, offered, as_came, place_in_memory}
use Words.{store_state, RunState, IsWholeStep, IsStepRun, AreStepRuns, SourcesGave, LinksSent, StepsDone, sent_in, ◌≡◌}
use Words.{◌≢◌, inl, inr, ℕ, zero, suc, ◌+◌, ◌-◌, ◌<◌, ◌≤◌, ◌^◌, cond, eqb, List, [], ◌∷◌, ◌++◌, length, map, All, refl}
use Words.{sym, subst, ap, ◌∙◌, arith, append_assoc, IsFlyable}
use Rattle.mm_dump.specs.Dumped.{times, places_of, AllTook}
use Rattle.mm_carry.proofs.Stepping.{as_planned, grown}
use Rattle.mm_carry.proofs.AccountLemmas.{accounted}
use Rattle.mm_carry.proofs.Counters.{counts_planned, by_counters, came_at, timed_offers}
use Rattle.mm_carry.proofs.RangeLists.{map_range_same, flat_map_range_same}
use Rattle.mm_carry.proofs.Ordered.{wanted_is, orders_are}
use Rattle.mm_carry.proofs.Sharing.{shared}
use Rattle.mm_carry.proofs.Words.{sum_by}
use Rattle.mm_carry.specs.Untaken.{AreShared}
use Rattle.mm_carry.proofs.Parts.{as_many, same_ids}
use Rattle.mm_carry.proofs.Placing.{id_there}

module _ {L : Type 0} (sent : L → List Sent) (failed : L → ℕ) (ids : List (List ℕ)) (gave : ℕ → List Stored) where
  -- each link sent what the orders at its places were given
  took_lists : (places : List (List ℕ)) (olds news : List L) → AllTook sent failed ids gave places olds news → (l : ℕ)
      → l < length olds
      → slice_index_or (map sent news) l [] ≡ slice_index_or (map sent olds) l []
      ++ flat_map (λ k. all_sent (id_at ids k) (gave k)) (slice_index_or places l [])
  unfolding AllTook
  took_lists [] [] [] took l within = absurd (omega arith)
  took_lists (p ∷ ps) (o ∷ os) (n ∷ ns) took zero within = took.0
  took_lists (p ∷ ps) (o ∷ os) (n ∷ ns) took (suc l) within = took_lists ps os ns took.2 l (omega arith)
  took_lists places olds news took l within = absurd took

  -- each link has its places, and no send failed
  took_all : (places : List (List ℕ)) (olds news : List L) → AllTook sent failed ids gave places olds news
      → (length places ≡ length olds) × (map failed news ≡ map failed olds)
  unfolding AllTook
  took_all [] [] [] took = (refl, refl)
  took_all (p ∷ ps) (o ∷ os) (n ∷ ns) took = let rest = took_all ps os ns took.2 in
      (ap suc rest.0, λ i. took.1 i ∷ rest.1 i)
  took_all places olds news took = absurd took

-- what holds of what some are made into holds of others that are made into the same
pub all_same : {X Y : Type 0} (P : Y → Type 0) (f : X → Y) (xs ys : List X) → map f ys ≡ map f xs
    → All (λ x. P (f x)) xs → All (λ x. P (f x)) ys
all_same P f xs ys same all = All-unmapped P f ys (subst (All P) (sym same) (All-map P f xs all))

-- what holds through a whole run: where the stores stand, that they are ready, and that the clock has room
pub record Footing (m : RunInput) (places : List ℕ) : Type 0 where
  pub stand_at : ArePlaces m.problem m.memory.stores (length m.problem.rows) places
  pub apart : AreApart places (length m.problem.rows)
  pub ready : (s : ℕ) → s < length m.problem.rows → IsReady m.problem s (store_state m m.memory.stores s)
  pub early : m.base + length m.problem.windows < 2 ^ 64
  pub flyable : IsFlyable m.problem

module _ {L : Type 0} (sent : L → List Sent) (failed : L → ℕ) (m : RunInput) (links : List L) (places : List ℕ)
    (footing : Footing m places) (t : ℕ) (from_one : 1 ≤ t) (before after : RunState Supply L) (report : Reported) where
  abbrev n : ℕ
  n = length m.problem.rows

  -- how many steps there are with this one
  abbrev count : ℕ
  count = t + 1 - 1

  abbrev e : RecordingContext
  e = recording t (m.base + t) m.memory.routes before.stores

  abbrev orders : List Order
  orders = orders_of m.amounts places t n

  module _ (done : StepsDone sent failed m m.gives links (t - 1) before report)
      (stepped : IsWholeStep sent failed e orders before after) where
    -- the stores after each step, what each order was given, and which orders each link took
    abbrev stores_after : ℕ → List Held
    stores_after u = cond (eqb u t) after.stores (done.stores u)

    abbrev gave_after : ℕ → ℕ → List Stored
    gave_after j u = cond (eqb u t) (stepped.gave j) (done.gave j u)

    abbrev took_after : ℕ → List (List ℕ)
    took_after u = cond (eqb u t) stepped.places (done.links_are.took u)

    -- the stores after the step, and before it
    at_new : stores_after t ≡ after.stores
    at_new = rw (eq-eqb t t refl) refl

    at_count : stores_after count ≡ after.stores
    at_count = let same : count ≡ t = omega arith in ap stores_after same ∙ at_new

    at_old : (u : ℕ) → u ≢ t → stores_after u ≡ done.stores u
    at_old u other = rw (ne_eqb u t other) refl

    at_last : stores_after (t - 1) ≡ before.stores
    at_last = at_old (t - 1) (λ same. omega (arith, same)) ∙ sym done.stores_are

    labels_before : labels_of before.stores ≡ labels_of m.memory.stores
    labels_before = ap labels_of done.stores_are ∙ done.runs.labels (t - 1) (omega arith)

    -- the state of a store before the step and after it
    state_before : (s : ℕ) → s < n → state_by places before.stores s ≡ store_state m (stores_after (t - 1)) s
    state_before s store =
        ap (λ (j : ℕ). opening_at (states_of before.stores) j) (footing.stand_at s store).is
        ∙ ap (λ (held : List Held). store_state m held s) (sym at_last)

    state_after : (s : ℕ) → s < n → state_by places after.stores s ≡ store_state m (stores_after t) s
    state_after s store =
        ap (λ (j : ℕ). opening_at (states_of after.stores) j) (footing.stand_at s store).is
        ∙ ap (λ (held : List Held). store_state m held s) (sym at_new)

    -- the identifiers at the places
    ids_before : e.ids ≡ map (λ h. h.id) m.memory.stores
    ids_before = same_ids before.stores m.memory.stores labels_before

    id_here : (s : ℕ) → s < n → id_at e.ids (slice_index places s) ≡ id_at (step_of m t).ids s
    id_here s store =
        ap (λ (ids : List (List ℕ)). id_at ids (slice_index places s)) ids_before
        ∙ id_there (row m.problem s).id m.memory.stores (slice_index places s) (footing.stand_at s store)
        ∙ sym (get_or-map (λ (r : StoreRow). r.id) m.problem.rows s no_row [] store)

    -- what was offered in the step
    offered_here : (s : ℕ) → s < n → map (offers e (slice_index places s)) (given_in t before.sources) ≡ offered m s t
    offered_here s store =
        let alike : map (offers e (slice_index places s)) (given_in t m.gives) ≡ offered m s t = λ i. map
        (λ ps. map (λ p. Offer e.now p) (filter (is_routed e.routes (id_here s store i)) ps)) (given_in t m.gives) in
        ap (map (offers e (slice_index places s))) (done.sources_are.others t (λ first last. omega arith)) ∙ alike

    -- a store had a step run in a step, this one or an earlier one
    abbrev RunAt : ℕ → ℕ → Type 0
    RunAt s u = IsStepRun (offered m s u) (m.amounts s u) (gave_after (place_in_memory m s) u)
        (store_state m (stores_after (u - 1)) s) (store_state m (stores_after u) s)

    step_run : (s : ℕ) → s < n → RunAt s t
    step_run s store =
        let p = slice_index places s in
        let there = footing.stand_at s store in
        let many : length after.stores ≡ length m.memory.stores = as_many after.stores m.memory.stores
        (stepped.labels ∙ labels_before) in
        let gave : stepped.gave p ≡ gave_after (place_in_memory m s) t =
        rw (eq-eqb t t refl) (ap stepped.gave there.is) in
        rw (
          offered_here s store,
          wanted_is m.amounts places t n s footing.apart store,
          gave,
          state_before s store,
          state_after s store,
        )
        at (stepped.runs p (omega (arith, many, there.within)))

    each_run : (s u : ℕ) → s < n → 1 ≤ u → u ≤ count → RunAt s u
    each_run s u store first last = elim (cases_eq u t) [
      | inl here ↦ subst (RunAt s) (sym here) (step_run s store)
      | inr other ↦ rw (ne_eqb u t other, ne_eqb (u - 1) t (λ same. omega (arith, same)))
          (done.runs.runs s u store first (omega arith))
    ]

    -- the stores had one step run more
    ran_on : AreStepRuns m count stores_after gave_after
    ran_on = record {
      first = at_old 0 (λ same. omega (arith, same)) ∙ done.runs.first;
      labels = λ u last. elim (cases_eq u t) [
        | inl here ↦ rw (eq-eqb u t here) (stepped.labels ∙ labels_before)
        | inr other ↦ rw (ne_eqb u t other) (done.runs.labels u (omega arith))
      ];
      runs = each_run;
    }

    -- the sources gave one step more
    given_on : SourcesGave count m.gives after.sources
    given_on = record {
      nothing_left = λ u first last. elim (cases_eq u t) [
        | inl here ↦ subst (λ (v : ℕ). All (λ s. s v ≡ []) after.sources) (sym here) stepped.nothing_left
        | inr other ↦
            all_same (λ (ps : List SpacePacket). ps ≡ []) (λ s. s u) before.sources after.sources
            (stepped.others u other) (done.sources_are.nothing_left u first (omega arith))
      ];
      others = λ u outside. stepped.others u (λ same. outside (omega (arith, same)) (omega (arith, same)))
          ∙ done.sources_are.others u (λ first last. outside first (omega arith));
    }

    -- the links took what the orders of the step were given
    took_now : AllTook sent failed (map (λ h. h.id) m.memory.stores) stepped.gave stepped.places before.links
        after.links
    took_now = rw ids_before at stepped.links

    -- the links before the step are as many as at first
    links_many : length before.links ≡ length links
    links_many = sym (length-map before.links failed) ∙ ap length done.links_are.no_failure ∙ length-map links failed

    -- the links sent one step more
    sent_on : LinksSent sent failed m count gave_after links after.links
    sent_on =
        let ids = map (λ h. h.id) m.memory.stores in
        let all = took_all sent failed ids stepped.gave stepped.places before.links after.links took_now in
        record {
          took = took_after;
          once = λ j u first last. elim (cases_eq u t) [
            | inl here ↦
                rw (here, eq-eqb t t refl) (stepped.once j ∙ ap (λ (os : List Order). times j (places_of os))
                (orders_are m places t (λ s store. (footing.stand_at s store).is)))
            | inr other ↦ rw (ne_eqb u t other) (done.links_are.once j u first (omega arith))
          ];
          links = λ u first last. elim (cases_eq u t) [
            | inl here ↦ rw (eq-eqb u t here) (all.0 ∙ links_many)
            | inr other ↦ rw (ne_eqb u t other) (done.links_are.links u first (omega arith))
          ];
          lists = λ l within.
              let piece = λ (u : ℕ). sent_in m gave_after u (slice_index_or (took_after u) l []) in
              let old = λ (u : ℕ). sent_in m done.gave u (slice_index_or (done.links_are.took u) l []) in
              let new = flat_map (λ j. all_sent (id_at ids j) (stepped.gave j)) (slice_index_or stepped.places l []) in
              let here : piece t ≡ new = rw (eq-eqb t t refl) refl in
              let same = flat_map_range_same piece old 1 (t - 1) (λ u from to. let other : u ≢ t = λ equal. omega
              (arith, equal) in rw (ne_eqb u t other) refl) in
              let next : flat_map piece (range_with_len 1 count) ≡ flat_map piece
              (range_with_len 1 (t - 1)) ++ piece t = ap (flat_map piece) (range_with_len_next t from_one) ∙ sym
              (flat_map_more piece [] (range_with_len 1 (t - 1)) t) in
              took_lists sent failed ids stepped.gave stepped.places before.links after.links took_now l
              (omega (arith, links_many)) ∙ ap (λ xs. xs ++ new) (done.links_are.lists l within) ∙ append_assoc
              (slice_index_or (map sent links) l []) (flat_map old (range_with_len 1 (t - 1))) new ∙ ap
              (λ xs. slice_index_or (map sent links) l [] ++ xs) (sym (next ∙ (λ i. same i ++ here i)));
          no_failure = all.1 ∙ done.links_are.no_failure;
        }

    module _ (keep : ReplaysKeepStates) (within : count ≤ length m.problem.windows) where
      -- what the orders of each store were given, and its states
      abbrev gave_of : ℕ → ℕ → List Stored
      gave_of s u = gave_after (place_in_memory m s) u

      abbrev states : ℕ → ℕ → State
      states s u = store_state m (stores_after u) s

      -- the steps so far are a run of the plan, with what came in place of the forecast
      run_of : IsRunOf (as_came m) m.amounts count (offered m) gave_of states
      run_of = record {
        flyable = record { before = footing.flyable.before; one_size = footing.flyable.one_size };
        ready = λ s store.
            let first = footing.ready s store in
            rw ran_on.first (record { sound = first.sound; sized = first.sized; holds = first.holds });
        timed = λ s u store first last. timed_offers m s u (omega (arith, footing.early));
        runs = each_run;
        came = λ s u store first last. came_at m s u store first (omega arith);
      }

      -- the counters of each store rise as the plan says
      planned_at : AtEach n count (λ s u. AsPlanned (as_came m) m.amounts s u (states s (u - 1)) (states s u))
      planned_at = as_planned keep (as_came m) m.amounts count (offered m) gave_of states run_of

      -- the rows by the counters are those of the plan
      rows_planned : rows_by_counters m stores_after count ≡ rows_of m.problem (as_came m) m.amounts count
      rows_planned = map_range_same _ _ 1 count (λ u first last. map_range_same _ _ 0 n
          (λ s from to. counts_planned m.problem (as_came m) m.amounts s u _ _
          (planned_at s u (omega arith) first (omega arith))))

      -- the rows so far and that of the step are those of the counters
      rows_counted : report.steps
          ++ row_from m.problem t (state_by places before.stores) (state_by places after.stores) ∷ []
          ≡ rows_by_counters m stores_after count
      rows_counted =
          let row = λ (before after : List Held) (u : ℕ).
          row_from m.problem u (store_state m before) (store_state m after) in
          let now = λ (u : ℕ). row (stores_after (u - 1)) (stores_after u) u in
          let earlier : map now (range_with_len 1 (t - 1)) ≡ rows_by_counters m done.stores (t - 1) =
          map_range_same now (λ u. row (done.stores (u - 1)) (done.stores u) u) 1 (t - 1)
          (λ u from to. let was = at_old (u - 1) (λ same. omega (arith, same)) in let is = at_old u
          (λ same. omega (arith, same)) in λ i. row (was i) (is i) u) in
          let last : row_from m.problem t (state_by places before.stores) (state_by places after.stores) ≡ now t =
          map_range_same _ _ 0 n
          (λ s from to. let was = state_before s (omega arith) in let is = state_after s (omega arith) in λ i.
          counts_from m.problem s t (counters_of (was i)) (counters_of (is i))) in
          let rows = done.rows ∙ sym earlier in
          (λ i. rows i ++ last i ∷ []) ∙ sym (ap (map now) (range_with_len_next t from_one)
          ∙ map_push now (range_with_len 1 (t - 1)) t)

      -- what the plan loses so far in a store, of what came
      abbrev lost_so_far : ℕ → ℕ
      lost_so_far s = sum_by (lost (as_came m) m.amounts s) (range_with_len 1 count)

      -- one step more of a run
      pub done_on : (new : Reported) → new ≡ record report {
        steps = report.steps
            ++ row_from m.problem t (state_by places before.stores) (state_by places after.stores) ∷ [];
      }
          → StepsDone sent failed m m.gives links count after new
      done_on new is =
          let rows = ap (λ (r : Reported). r.steps) is ∙ rows_counted in
          let was = done.report_is in
          let accounts = accounted keep (as_came m) m.amounts count (offered m) gave_of states run_of in
          record {
            stores = stores_after;
            gave = gave_after;
            runs = ran_on;
            stores_are = sym at_count;
            sources_are = given_on;
            links_are = sent_on;
            accounted = accounts;
            shared =
                subst (λ (held : List Held). AreShared m count gave_after held) at_count (shared m count stores_after
                gave_after ran_on.first accounts
                (λ s u store first last. let takes = (planned_at s u store first last).takes in
                let came_here = came_at m s u store first (omega arith) in
                omega (arith, takes, came_here)));
            losses = λ s store. subst (λ (held : List Held). (store_state m held s).lost
                ≡ (store_state m m.memory.stores s).lost + lost_so_far s) at_count
                (subst (λ (held : List Held). (store_state m (stores_after count) s).lost
                ≡ (store_state m held s).lost + lost_so_far s) ran_on.first
                (grown (λ u. (states s u).lost) (lost (as_came m) m.amounts s) count
                (λ u first last. (planned_at s u store first last).loses)));
            report_is = is ∙ (λ i. record {
              ids = ap (λ (r : Reported). r.ids) was i;
              most = ap (λ (r : Reported). r.most) was i;
              steps = (rows_counted ∙ rows_planned) i;
            });
            rows = rows;
            counted = rw (← at_count, rows) (by_counters m stores_after count ran_on.first (as_came m) m.amounts
                planned_at);
          }
