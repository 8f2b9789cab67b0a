-- No timeline loses less than the bound of a cut, but for roundings.
use Rattle.std.proofs.Common.{◌≡◌, ℕ, zero, suc, ◌+◌, ◌-◌, ◌*◌, ◌<◌, ◌≤◌, Bool, true, false, cond, List}
use Rattle.std.proofs.Common.{nat_lt, nat_le, ◌&&◌, ◌==◌}
use Rattle.std.proofs.Common.{[], ◌∷◌, length, get_or, Some, None, pos, refl, sym, ap, ◌∙◌, subst, inl, inr, arith}
use Rattle.std.proofs.Common.{length-append}
use Rattle.std.specs.Prelude.{Contains, IsSome, is_some, filter, ◌≤ℤ◌}
use Rattle.std.specs.List.{sum_by, range_with_len, flat_map}
use Rattle.std.proofs.lemmas.Bool.{cases_Bool, cases_lt, both_ways}
use Rattle.std.proofs.lemmas.Bool.Decides.{nat_tests}
use Rattle.std.proofs.lemmas.Int.{ints}
use Rattle.std.proofs.lemmas.List.{length-map}
use Rattle.std.proofs.lemmas.List.FromFn.{length-map-range_with_len}
use Rattle.std.proofs.lemmas.Nat.{mul-le}
use Rattle.mm_base.specs.declared.limits.TheConstants.{CHANNELS}
use Rattle.mm_base.specs.declared.rows.StoreRow.{StoreRow}
use Rattle.mm_base.proofs.Sums.{sum_by-le_each, sum_by-add, sum_by-filter, sum_by-swap, sum_by_ones, sum_by_zeros}
use Rattle.mm_base.proofs.RangeSums.{sum_by_range-le, sum_by_range_same}
use Rattle.mm_problem.specs.Dumping.{Dumping, limit, is_of, stores, stores_of, channels, steps}
use Rattle.mm_problem.specs.Forecast.{limit_of, limits_of}
use Rattle.mm_problem.specs.declared.come.Arrivals.{Arrivals}
use Rattle.mm_problem.specs.declared.come.Arrivals.TheVariants.{During}
use Rattle.mm_problem.proofs.Limits.{limit_within}
use Rattle.mm_plan.specs.declared.stretch.Stretch.{Stretch}
use Rattle.mm_cut.specs.Stretches.{store_of, covers, inner_end, is_inner, is_inner_on}
use Rattle.mm_cut.specs.Counts.{is_listed}
use Rattle.mm_cut.specs.Cuts.{IsCut, coming, held, limit_or_0, leaving, leaving_sum, coming_sum, held_sum, bound}
use Rattle.mm_cut.proofs.Exchange.{by_store, listed_is_counted}
use Rattle.mm_mission.specs.declared.counter.Counter.TheVariants.{Sent}
use Rattle.mm_mission.specs.Mission.{MissionRows, store_at, IsMission}
use Rattle.mm_mission.specs.Flows.{is_on, counted}
use Rattle.mm_mission.specs.Edges.{AreEdges}
use Rattle.mm_mission.specs.Planned.{growth, growths, row_of, is_limited, IsProblemOf}
use Rattle.mm_mission.specs.Timeline.{is_in_pass}
use Rattle.mm_mission.specs.Laws.{over, room}
use Rattle.mm_mission.proofs.Grown.{steps_grow}
use Rattle.mm_mission_laws.specs.Exact.{Exact, IsExact, step_span, KeepsRates, loses, all_lost}
use Rattle.mm_mission_laws.specs.Lost.{stretch_roundings, step_roundings, roundings}
use Rattle.mm_mission_laws.proofs.Level.{row_is}
use Rattle.mm_mission_laws.proofs.Split.{over_split, sum_by_times}
use Rattle.mm_mission_laws.proofs.Places.{at_edge, at_below, in_step, in_steps}
use Rattle.mm_mission_laws.proofs.Kept.{kept_within}
use Rattle.mm_mission_laws.proofs.Sent.{together, within_step}
use Rattle.mm_mission_laws.proofs.Shared.{leaves, leaves_none, leaves_all, leaves_in_rooms}

-- as many as numbers, where each makes one
ones : (make : ℕ → List ℕ) → ((t : ℕ) → length (make t) ≡ 1) → (a n : ℕ)
    → length (flat_map make (range_with_len a n)) ≡ n
ones make each a zero = refl
ones make each a (suc n) =
    omega (
      arith,
      length-append (make a) (flat_map make (range_with_len (a + 1) n)),
      each a,
      ones make each (a + 1) n,
    )

-- where arrivals come during dumps, all steps of a stretch are inner
all_inner : (come : Arrivals) (d : Stretch) (t : ℕ) → come ≡ During → nat_lt t (inner_end come d) ≡ nat_le t d.last
all_inner come d t during =
    let end : inner_end come d ≡ d.last + 1 = ap (λ c. inner_end c d) during in
    rw end (elim (cases_lt d.last t) [
      | inl after ↦
          let one : nat_lt t (d.last + 1) ≡ false = grind (arith, nat_tests) in
          let other : nat_le t d.last ≡ false = grind (arith, nat_tests) in
          one ∙ sym other
      | inr within ↦
          let one : nat_lt t (d.last + 1) ≡ true = grind (arith, nat_tests) in
          let other : nat_le t d.last ≡ true = grind (arith, nat_tests) in
          one ∙ sym other
    ])

some_is : (b : Bool) (n : ℕ) → IsSome (cond b (Some n) None) → b ≡ true
some_is true n some = refl
some_is false n some = absurd (both_ways (is_some (cond false (Some n) None)) refl some)

module _ (m : MissionRows) (edges : List ℕ) (q : Dumping) (ds : List Stretch) (ts : List ℕ) (e : Exact)
    (h : IsMission m) (are : AreEdges m edges) (of : IsProblemOf m edges q) (cut : IsCut q ds ts) (exact : IsExact m e)
    (keeps : KeepsRates m e) (each : (t : ℕ) → Contains edges t → Contains e.times t)
  where
    last_step : ℕ
    last_step = length edges - 1

    many : length q.windows ≡ length edges - 1
    many = ap length of.windows
        ∙ ones (growths m (Sent None ∷ []) edges) (λ t. refl) 1 (length edges - 1)

    rows : length q.rows ≡ length m.stores
    rows = ap length of.rows ∙ length-map m.stores row_of

    -- what is sent of a store, and lost, in a step
    abbrev sent_in : ℕ → ℕ → ℕ
    sent_in t s = in_step m edges e.times are.times exact.times each (e.sent s) t

    abbrev lost_in : ℕ → ℕ → ℕ
    lost_in t s = in_step m edges e.times are.times exact.times each (loses e s) t

    abbrev lies : ℕ → Bool
    lies t = is_in_pass m.passes (step_span edges t)

    module _ (t : ℕ) (first : 1 ≤ t) (last : t < length edges) where
      -- in all
      all_sent : sum_by (sent_in t) (stores q) ≤ e.parts * room q None t + e.parts * cond (lies t) 1 0
      all_sent =
          let stores_are = range_with_len 0 (length m.stores) in
          let same : sum_by (sent_in t) (stores q)
          ≡ sum_by (sent_in t) (filter (λ s. is_on None (store_at m s)) stores_are) =
          rw rows (sym (sum_by-filter (sent_in t) (λ s. is_on None (store_at m s)) stores_are)) in
          let all = together m edges q e h are of exact keeps each t first last
          (filter (λ s. is_on None (store_at m s)) stores_are) in
          let within = within_step m edges q e h are of exact keeps each t first last None tt in
          omega (arith, same, all, within)

      -- and of a channel with a limit
      sent_of : (c : ℕ) → IsSome (limit q c t)
          → sum_by (sent_in t) (stores_of q c) ≤ e.parts * limit_or_0 q t c + e.parts * cond (lies t) 1 0
      sent_of c some =
          let stores_are = range_with_len 0 (length m.stores) in
          let on : ℕ → Bool = λ s. is_on (Some c) (store_at m s) in
          let same_store : (s : ℕ) → s < length m.stores → is_of q c s ≡ on s =
          λ s below. ap (λ (r : StoreRow). r.channel == c) (row_is m edges q (λ _ _. 0) s h below of) in
          let same : sum_by (λ s. cond (is_of q c s) (sent_in t s) 0) (stores q)
          ≡ sum_by (λ s. cond (on s) (sent_in t s) 0) stores_are =
          rw rows (sum_by_range_same (λ s. cond (is_of q c s) (sent_in t s) 0) (λ s. cond (on s) (sent_in t s) 0) 0
          (length m.stores) (λ s low high. ap (λ b. cond b (sent_in t s) 0) (same_store s (omega arith)))) in
          let filtered = sum_by-filter (sent_in t) on stores_are in
          let all = together m edges q e h are of exact keeps each t first last (filter on stores_are) in
          let channels_are : length (limits_of []) ≡ CHANNELS = length-map-range_with_len (limit_of []) 0 CHANNELS in
          let below : c < CHANNELS = omega (arith, limit_within q c t some, ap length of.no_limits, channels_are) in
          let grows = (steps_grow m edges q t of first last).limits c below in
          let has : is_limited m.passes c ≡ true =
          some_is (is_limited m.passes c) (growth (counted m (Sent (Some c))) edges t) (subst IsSome grows some) in
          let within = within_step m edges q e h are of exact keeps each t first last (Some c) (below, has) in
          omega (arith, sum_by-filter (sent_in t) (is_of q c) (stores q), same, filtered, all, within)

      -- what leaves the inner stores of a cut is what the cut counts, but for roundings
      leaves_within : sum_by (leaves q ds cut.stretches t (sent_in t)) ds
          ≤ e.parts * cond (is_inner q ds t) (leaving q ds ts t) 0
          + e.parts * cond (is_inner q ds t) (step_roundings m edges q ds ts t) 0
      leaves_within = elim (cases_Bool (is_inner q ds t)) [
        | inr none ↦ rw none (omega (arith, leaves_none q ds cut.stretches t (sent_in t) none))
        | inl inner ↦ rw inner (elim (cases_Bool (is_listed ts t)) [
          | inr other ↦
              let all = leaves_all q ds cut.stretches t (sent_in t) in
              rw other (omega (arith, all, all_sent))
          | inl listed ↦
              let limited = (listed_is_counted q (λ _ _. 0) ds cut.stretches ts t cut.counted listed).limited in
              let on = filter (is_inner_on q ds t) (channels q) in
              let rooms : ℕ → ℕ = λ c. e.parts * limit_or_0 q t c + e.parts * cond (lies t) 1 0 in
              let within = leaves_in_rooms q ds cut.stretches t (sent_in t) rooms sent_of limited in
              let parted = sum_by-add (λ c. e.parts * limit_or_0 q t c) (λ _. e.parts * cond (lies t) 1 0) on in
              let limits = sum_by_times e.parts (limit_or_0 q t) on in
              let counts : sum_by (λ c. e.parts * cond (lies t) 1 0) on ≡ e.parts * cond (lies t) (length on) 0 =
              elim (cases_Bool (lies t)) [
                | inl inside ↦ rw inside (sum_by_times e.parts (λ _. 1) on ∙ ap (λ n. e.parts * n) (sum_by_ones on))
                | inr outside ↦ rw outside (sum_by_times e.parts (λ _. 0) on ∙ ap (λ n. e.parts * n)
                    (sum_by_zeros (λ _. 0) on (λ k d inside. refl)))
              ] in
              rw listed (omega (arith, within, parted, limits, counts))
        ])
      ]

    -- over all steps
    all_leave : sum_by (λ d. sum_by (λ t. leaves q ds cut.stretches t (sent_in t) d) (steps q)) ds
        ≤ e.parts * leaving_sum q ds ts
        + e.parts * sum_by (step_roundings m edges q ds ts) (filter (is_inner q ds) (steps q))
    all_leave =
        let counts : ℕ → ℕ = λ t. cond (is_inner q ds t) (leaving q ds ts t) 0 in
        let rounds : ℕ → ℕ = λ t. cond (is_inner q ds t) (step_roundings m edges q ds ts t) 0 in
        let within = sum_by_range-le (λ t. sum_by (leaves q ds cut.stretches t (sent_in t)) ds)
        (λ t. e.parts * counts t + e.parts * rounds t) 1 (length q.windows)
        (λ t low high. leaves_within t low (omega (arith, many))) in
        omega (
          arith,
          sum_by-swap (λ d t. leaves q ds cut.stretches t (sent_in t) d) ds (steps q),
          within,
          sum_by-add (λ t. e.parts * counts t) (λ t. e.parts * rounds t) (steps q),
          sum_by_times e.parts counts (steps q),
          sum_by_times e.parts rounds (steps q),
          ap (λ n. e.parts * n) (sum_by-filter (leaving q ds ts) (is_inner q ds) (steps q)),
          ap (λ n. e.parts * n) (sum_by-filter (step_roundings m edges q ds ts) (is_inner q ds) (steps q)),
        )

    -- what stretches lose is at most what all stores lose
    abbrev loses_in : Stretch → ℕ → ℕ
    loses_in d t = cond (covers d t) (lost_in t (store_of q d)) 0

    lost_within : (s : ℕ) → sum_by (λ t. lost_in t s) (steps q) ≤ over (loses e s) 0 (length e.times - 1)
    lost_within s =
        let n = length edges - 1 in
        let last : n < length edges = omega (arith, are.times.some) in
        let at = at_edge m edges e.times are.times exact.times each n in
        let below = at_below m edges e.times are.times exact.times each n last in
        let all = in_steps m edges e.times are.times exact.times each (loses e s) n last in
        let there : at + (length e.times - 1 - at) ≡ length e.times - 1 = omega (arith, below) in
        let split = rw there at (over_split (loses e s) at (length e.times - 1 - at)) in
        rw many (omega (arith, all, split))

    all_lose : sum_by (λ d. sum_by (loses_in d) (steps q)) ds ≤ all_lost m e
    all_lose =
        let within = sum_by_range-le (λ t. sum_by (λ d. loses_in d t) ds) (λ t. sum_by (lost_in t) (stores q)) 1
        (length q.windows) (λ t _ _. by_store q ds t (lost_in t) (λ d. covers d t) cut.stretches (λ d at. at)) in
        let stores_lose = sum_by-le_each (λ s. sum_by (λ t. lost_in t s) (steps q))
        (λ s. over (loses e s) 0 (length e.times - 1)) (range_with_len 0 (length m.stores))
        (λ k d inside. lost_within _) in
        let swapped = rw rows at (sum_by-swap (λ s t. lost_in t s) (stores q) (steps q)) in
        omega (
          arith,
          sum_by-swap loses_in ds (steps q),
          rw rows at within,
          swapped,
          stores_lose,
        )

    -- one stretch
    stretch_within : (k : ℕ) (x : Stretch) → k < length ds
        → let d = get_or ds k x in
        e.parts * coming q d ≤ sum_by (loses_in d) (steps q)
        + sum_by (λ t. leaves q ds cut.stretches t (sent_in t) d) (steps q) + e.parts * held q d
        + e.parts * stretch_roundings d
    stretch_within k x inside =
        let d = get_or ds k x in
        let is = cut.stretches.each k x inside in
        let kept = kept_within m edges q e h are.times of exact each d (omega (arith, is.store, rows)) is.first is.order
        (omega (arith, is.last, many, are.times.some, is.first, is.order)) (rw many refl) in
        let range = range_with_len 1 (length edges - 1) in
        let lost_same : sum_by (loses_in d) (steps q)
        ≡ sum_by (λ t. lost_in t (store_of q d)) (filter (covers d) range) =
        rw many (sym (sum_by-filter (λ t. lost_in t (store_of q d)) (covers d) range)) in
        let inner_same = sum_by_range_same (λ t. leaves q ds cut.stretches t (sent_in t) d)
        (λ t. cond (covers d t) (sent_in t (store_of q d)) 0) 1 (length edges - 1)
        (λ t low high. ap (λ b. cond (nat_le d.first t && b) (sent_in t (store_of q d)) 0)
        (all_inner q.come d t of.during)) in
        let sent_same : sum_by (λ t. leaves q ds cut.stretches t (sent_in t) d) (steps q)
        ≡ sum_by (λ t. sent_in t (store_of q d)) (filter (covers d) range) =
        rw many (inner_same ∙ sym (sum_by-filter (λ t. sent_in t (store_of q d)) (covers d) range)) in
        omega (arith, kept, lost_same, sent_same)

    pub loses_no_less : (units : ℕ) → pos units ≤ℤ bound q ds ts
        → e.parts * units ≤ all_lost m e + e.parts * roundings m edges q ds ts
    loses_no_less units low =
        let lose : Stretch → ℕ = λ d. sum_by (loses_in d) (steps q) in
        let leave : Stretch → ℕ = λ d. sum_by (λ t. leaves q ds cut.stretches t (sent_in t) d) (steps q) in
        let all = sum_by-le_each (λ d. e.parts * coming q d)
        (λ d. lose d + leave d + e.parts * held q d + e.parts * stretch_roundings d) ds stretch_within in
        let come_in : units + (held_sum q ds + leaving_sum q ds ts) ≤ coming_sum q ds = omega (arith, ints, low) in
        omega (
          arith,
          all,
          mul-le e.parts (units + (held_sum q ds + leaving_sum q ds ts)) e.parts (coming_sum q ds) (omega arith)
              come_in,
          sum_by_times e.parts (coming q) ds,
          sum_by-add (λ d. lose d + leave d + e.parts * held q d) (λ d. e.parts * stretch_roundings d) ds,
          sum_by-add (λ d. lose d + leave d) (λ d. e.parts * held q d) ds,
          sum_by-add lose leave ds,
          sum_by_times e.parts (held q) ds,
          sum_by_times e.parts stretch_roundings ds,
          all_lose,
          all_leave,
        )

-- the law
pub no_timeline_loses_less : (m : MissionRows) (edges : List ℕ) (q : Dumping) (ds : List Stretch) (ts : List ℕ)
    (e : Exact) (units : ℕ) → IsMission m → AreEdges m edges → IsProblemOf m edges q → IsCut q ds ts → IsExact m e
    → KeepsRates m e → ((t : ℕ) → Contains edges t → Contains e.times t) → pos units ≤ℤ bound q ds ts
    → e.parts * units ≤ all_lost m e + e.parts * roundings m edges q ds ts
no_timeline_loses_less m edges q ds ts e units h are of cut exact keeps each =
    loses_no_less m edges q ds ts e h are of cut exact keeps each units
