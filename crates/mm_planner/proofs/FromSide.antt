-- From a side to a cut: it is well formed, and what its bound leaves out is at most the side's capacity.
use Rattle.std.proofs.Common.{◌≡◌, ◌≢◌, ℕ, zero, suc, ◌+◌, ◌<◌, ◌≤◌, Bool, true, false, cond, not, ◌&&◌, eqb, leb, ltb, length, get_or, All, refl, sym, ap, ◌∙◌, subst, inl, inr, arith, add-one}
use Rattle.std.specs.Prelude.{AllPairs, filter}
use Rattle.std.specs.List.{sum_by, range_with_len}
use Rattle.std.specs.Str.{bytes_eq}
use Rattle.std.proofs.lemmas.Bool.{cases_Bool, cases_lt, cond-true, cond-false, and_from, and_parts, not-true, not_from_false, false≢true, both_ways, false_from_ne_true, leb-true, ltb-true, eqb-true}
use Rattle.std.proofs.lemmas.List.Elements.{All-map}
use Rattle.std.proofs.lemmas.List.Folds.{Any-from_list_any}
use Rattle.std.proofs.lemmas.List.Sums.{position_or_len_is}
use Rattle.std.proofs.lemmas.Slice.Eq.{bytes_eq-Decides}
use Rattle.mm_base.proofs.Grids.{grid, grid-add, grid-same}
use Rattle.mm_base.proofs.Pairs.{AllPairs-map}
use Rattle.mm_base.proofs.RangeSums.{sum_by_range-le, sum_by_range_same}
use Rattle.mm_base.proofs.Ranges.{All-filter-range_with_len, All-flat_map-range_with_len, AllPairs-filter-range_with_len, AllPairs-flat_map-range_with_len, is_listed-filter, not_listed-filter}
use Rattle.mm_base.proofs.Sums.{sum_by-add, sum_by-filter, sum_by-flat_map, sum_by-map-filter, sum_by-swap}
use Rattle.mm_problem.specs.declared.come.Arrivals.{Arrivals}
use Rattle.mm_problem.specs.declared.come.Arrivals.TheVariants.{Before, During}
use Rattle.mm_problem.specs.Dumping.{Dumping, IsDumping, no_row, row, place, size, start, window, arrivals, channels, steps}
use Rattle.mm_plan.specs.declared.stretch.Stretch.{Stretch}
use Rattle.mm_cut.specs.Stretches.{store_of, channel_of, inner_end, goes_past, goes_past_on, is_inner, is_inner_on, IsStretch, AreApart, AreStretches}
use Rattle.mm_cut.specs.Counts.{is_listed, IsLimited, IsCounted, AreCounted}
use Rattle.mm_cut.specs.Cuts.{coming, held, limit_or_0, limit_sum, leaving, leaving_sum}
use Rattle.mm_flow.specs.Cut.{Side, IsCut, capacity_of}
use Rattle.mm_planner.specs.declared.nodes.TheConstants.{SOURCE, SINK}
use Rattle.mm_planner.specs.declared.nodes.Node.TheVariants.{In, Out, Channel, Pass}
use Rattle.mm_planner.specs.Network.{Inflows, inflow, dump_node, net_by}
use Rattle.mm_planner.specs.Runs.{is_on, is_end, first_step, stretch, stretches_of, first_stretches, is_by_channels, first_counts}
use Rattle.mm_planner.proofs.Wider.{grid-wider}
use Rattle.mm_planner.proofs.KindSums.{next_cases, channel_within}
use Rattle.mm_planner.proofs.Capacities.{capacity_kinds, keep_inside, take_inside, limit_outside}
use Rattle.mm_planner.proofs.RunSums.{first_step-low, first_step-high, first_step-goes_on, coming_over, coming_over_is, runs_cover}

-- the identifier of a store leads back to its place
store_named : (q : Dumping) → IsDumping q → (s : ℕ) → s < length q.rows → place q (row q s).id ≡ s
store_named q is s within =
    position_or_len_is (λ r. bytes_eq r.id (row q s).id) q.rows s no_row (omega arith)
    (λ k before. false_from_ne_true (bytes_eq (row q k).id (row q s).id) (λ same. is.stores.named k s no_row before within ((bytes_eq-Decides (row q k).id (row q s).id).0 same)))
    (λ _. (bytes_eq-Decides (row q s).id (row q s).id).1 refl)

-- a stretch of the problem, in each inner step of which the node of its store's dumps is on the side
record IsRun (q : Dumping) (side : Side) (d : Stretch) : Type 0 where
  stretch_is : IsStretch q d
  inner : (t : ℕ) → goes_past q t d ≡ true → is_on side (dump_node q.come t (store_of q d)) ≡ true

module _ (q : Dumping) (is : IsDumping q) (n : ℕ) (few : n ≤ length q.rows) (a : Inflows) (as_comes : (t s : ℕ) → s < n → a t s ≡ inflow q t s) (side : Side) (cut : IsCut (net_by q a) SOURCE SINK side) where
  -- a run goes on into the next step
  goes : (s : ℕ) → s < length q.rows → (t : ℕ) → 1 ≤ t → t < length q.windows → is_on side (Out t s) ≡ true → is_on side (In (suc t) s) ≡ true
  goes s below t first before inside =
      let next = keep_inside q a side cut t s first (omega arith) below inside in
      elim (next_cases q t s) [
        | inl last ↦ absurd (omega (arith, last.0))
        | inr later ↦ ap (λ n. is_on side (In n s)) (sym (add-one t)) ∙ sym (ap (is_on side) later.1) ∙ next
      ]

  -- each run ends with the last step at the latest
  ends : (s : ℕ) → s < length q.rows → is_on side (Out (length q.windows) s) ≡ false
  ends s below = false_from_ne_true (is_on side (Out (length q.windows) s)) (λ inside.
      let next = keep_inside q a side cut (length q.windows) s is.steps.has_step (omega arith) below inside in
      elim (next_cases q (length q.windows) s) [
        | inl last ↦ both_ways (side SINK) cut.lacks_sink (sym (ap (is_on side) last.1) ∙ next)
        | inr before ↦ before.0 refl
      ])

  -- a stretch begins no later than it ends
  stretch_order : (s t : ℕ) → 1 ≤ t → first_step side s t ≤ t
  stretch_order s zero first = absurd (omega arith)
  stretch_order s (suc t) first = first_step-high side s t

  -- what it is for a step to be inner
  passed : (a b t : ℕ) → (leb a t && ltb t b) ≡ true → (a ≤ t) × (t < b)
  passed a b t at = let parts = and_parts (leb a t) (ltb t b) at in (leb-true a t parts.0, ltb-true t b parts.1)

  -- in each inner step of a run the node of the store's dumps is on the side
  inner_inside : (come : Arrivals) (s t u : ℕ) → is_end side s t ≡ true → first_step side s t ≤ u
      → u < inner_end come (stretch q side s t) → is_on side (dump_node come u s) ≡ true
  inner_inside Before s t u end low high =
      (and_parts (is_on side (In u s)) (is_on side (Out u s)) (first_step-goes_on side s t u low high)).1
  inner_inside During s t u end low high = elim (cases_lt u t) [
    | inl before ↦
        (and_parts (is_on side (In u s)) (is_on side (Out u s)) (first_step-goes_on side s t u low before)).0
    | inr past ↦
        let same : u ≡ t = omega arith in
        rw same (and_parts (is_on side (In t s)) (not (is_on side (Out t s))) end).0
  ]

  -- a run is a stretch
  stretch_is_run : (s t : ℕ) → s < length q.rows → 1 ≤ t → t < 1 + length q.windows → is_end side s t ≡ true
      → IsRun q side (stretch q side s t)
  stretch_is_run s t below first last end =
      let named = store_named q is s below in
      record {
        stretch_is = record { store = omega (arith, named); first = first_step-low side s t; order = stretch_order s t first; last = omega arith };
        inner = λ u at.
            let inside = passed (first_step side s t) (inner_end q.come (stretch q side s t)) u at in
            ap (λ k. is_on side (dump_node q.come u k)) named ∙ inner_inside q.come s t u end inside.0 inside.1;
      }

  -- each of the stretches is a run
  all_runs : All (IsRun q side) (first_stretches n q side)
  all_runs =
      All-flat_map-range_with_len (IsRun q side) (stretches_of q side) 0 n
      (λ s _ below. All-map (IsRun q side) (stretch q side s) (filter (is_end side s) (steps q))
      (All-filter-range_with_len (λ t. IsRun q side (stretch q side s t)) (is_end side s) 1 (length q.windows) (λ t low high end. stretch_is_run s t (omega (arith, few)) low high end)))

  -- two runs of one store
  apart_in_store : (s t u : ℕ) → t < u → is_end side s t ≡ true → AreApart (stretch q side s t) (stretch q side s u)
  apart_in_store s t u before at_t _ = elim (cases_lt t (first_step side s u)) [
    | inl after ↦ inl after
    | inr shared ↦
        let on = and_parts (is_on side (In t s)) (is_on side (Out t s)) (first_step-goes_on side s u t shared before) in
        let off = and_parts (is_on side (In t s)) (not (is_on side (Out t s))) at_t in
        absurd (both_ways (is_on side (Out t s)) (not-true (is_on side (Out t s)) off.1) on.1)
  ]

  -- runs of two stores
  apart_across : (s r t u : ℕ) → s < r → r < length q.rows → AreApart (stretch q side s t) (stretch q side r u)
  apart_across s r t u before below same =
      absurd (omega (arith, store_named q is s (omega arith), store_named q is r below, ap (place q) same))

  -- no two stretches share a step of one store
  all_apart : AllPairs AreApart (first_stretches n q side)
  all_apart =
      AllPairs-flat_map-range_with_len AreApart (stretches_of q side) 0 n
      (λ s _ below. AllPairs-map AreApart (stretch q side s) (filter (is_end side s) (steps q))
      (AllPairs-filter-range_with_len (λ t u. AreApart (stretch q side s t) (stretch q side s u)) (is_end side s) 1 (length q.windows) (λ t u _ before _ at_t _. apart_in_store s t u before at_t)))
      (λ s r _ before below.
      All-map (λ d. All (AreApart d) (stretches_of q side r)) (stretch q side s) (filter (is_end side s) (steps q))
      (All-filter-range_with_len (λ t. All (AreApart (stretch q side s t)) (stretches_of q side r)) (is_end side s) 1 (length q.windows)
      (λ t _ _ _. All-map (AreApart (stretch q side s t)) (stretch q side r) (filter (is_end side r) (steps q))
      (All-filter-range_with_len (λ u. AreApart (stretch q side s t) (stretch q side r u)) (is_end side r) 1 (length q.windows) (λ u _ _ _. apart_across s r t u before (omega (arith, few)))))))

  -- the stretches are well formed
  pub are_stretches : AreStretches q (first_stretches n q side)
  are_stretches = record { each = λ k d within. (all_runs k d within).stretch_is; apart = all_apart }

  -- in an inner step of a run, the channel of its store is on the side
  inner_channel : (d : Stretch) (t : ℕ) → IsRun q side d → 1 ≤ t → t ≤ length q.windows → goes_past q t d ≡ true → is_on side (Channel t (channel_of q d)) ≡ true
  inner_channel d t run first last at = take_inside q a side cut t (store_of q d) first last run.stretch_is.store (run.inner t at)

  -- the steps that count by channels are steps that can be counted so
  counted_limited : (t : ℕ) → 1 ≤ t → t ≤ length q.windows → is_on side (Pass t) ≡ false → All (IsLimited q t) (first_stretches n q side)
  counted_limited t first last outside k d within at =
      let run = all_runs k d within in
      limit_outside q a side cut t (channel_of q (get_or (first_stretches n q side) k d)) first last
      (omega (arith, channel_within q is (store_of q (get_or (first_stretches n q side) k d)) run.stretch_is.store, is.channels.all))
      (inner_channel (get_or (first_stretches n q side) k d) t run first last at) outside

  -- so are the counted steps
  pub are_counted : AreCounted q (first_stretches n q side) (first_counts n q side)
  are_counted = record {
    each = All-filter-range_with_len (IsCounted q (first_stretches n q side)) (is_by_channels q side (first_stretches n q side)) 1 (length q.windows)
        (λ t low high at.
        let parts = and_parts (is_inner q (first_stretches n q side) t) (not (is_on side (Pass t))) at in
        record { inner = parts.0; limited = counted_limited t low (omega arith) (not-true (is_on side (Pass t)) parts.1) });
    once = AllPairs-filter-range_with_len ◌≢◌ (is_by_channels q side (first_stretches n q side)) 1 (length q.windows) (λ t u _ before _ _ _ same. omega arith);
  }

  -- what comes over the runs of one store
  store_coming : (s : ℕ) → s < length q.rows → sum_by (coming q) (stretches_of q side s) ≡ sum_by (λ t. cond (is_on side (In t s)) (inflow q t s) 0) (steps q)
  store_coming s below =
      let one : (t : ℕ) → coming q (stretch q side s t) ≡ coming_over q s (first_step side s t) t =
      λ t. ap (λ k. cond (eqb (first_step side s t) 1) (start q k) 0 + sum_by (arrivals q k) (filter (λ u. leb (first_step side s t) u && leb u t) (steps q))) (store_named q is s below) ∙ coming_over_is q s (first_step side s t) t in
      sum_by-map-filter (coming q) (stretch q side s) (is_end side s) (steps q)
      ∙ sum_by_range_same (λ t. cond (is_end side s t) (coming q (stretch q side s t)) 0) (λ t. cond (is_end side s t) (coming_over q s (first_step side s t) t) 0) 1 (length q.windows) (λ t _ _. ap (λ n. cond (is_end side s t) n 0) (one t))
      ∙ runs_cover q s side (goes s below) (ends s below)

  -- what comes over all stretches
  all_coming : sum_by (coming q) (first_stretches n q side) ≡ grid (λ t s. cond (is_on side (In t s)) (inflow q t s) 0) (length q.windows) n
  all_coming =
      sum_by-flat_map (coming q) (stretches_of q side) (range_with_len 0 n)
      ∙ sum_by_range_same (λ s. sum_by (coming q) (stretches_of q side s)) (λ s. sum_by (λ t. cond (is_on side (In t s)) (inflow q t s) 0) (steps q)) 0 n (λ s _ below. store_coming s (omega (arith, few)))
      ∙ sym (sum_by-swap (λ t s. cond (is_on side (In t s)) (inflow q t s) 0) (steps q) (range_with_len 0 n))

  -- what is held at the ends of all stretches
  all_held : sum_by (held q) (first_stretches n q side) ≡ grid (λ t s. cond (is_end side s t) (size q s t) 0) (length q.windows) n
  all_held =
      let one : (s : ℕ) → s < length q.rows → sum_by (held q) (stretches_of q side s) ≡ sum_by (λ t. cond (is_end side s t) (size q s t) 0) (steps q) =
      λ s below. sum_by-map-filter (held q) (stretch q side s) (is_end side s) (steps q)
      ∙ sum_by_range_same (λ t. cond (is_end side s t) (held q (stretch q side s t)) 0) (λ t. cond (is_end side s t) (size q s t) 0) 1 (length q.windows) (λ t _ _. ap (λ k. cond (is_end side s t) (size q k t) 0) (store_named q is s below)) in
      sum_by-flat_map (held q) (stretches_of q side) (range_with_len 0 n)
      ∙ sum_by_range_same (λ s. sum_by (held q) (stretches_of q side s)) (λ s. sum_by (λ t. cond (is_end side s t) (size q s t) 0) (steps q)) 0 n (λ s _ below. one s (omega (arith, few)))
      ∙ sym (sum_by-swap (λ t s. cond (is_end side s t) (size q s t) 0) (steps q) (range_with_len 0 n))

  -- what comes to all stores, on the side and off it
  all_inflow : grid (inflow q) (length q.windows) n ≡ grid (λ t s. cond (is_on side (In t s)) (inflow q t s) 0) (length q.windows) n + grid (λ t s. cond (is_on side (In t s)) 0 (inflow q t s)) (length q.windows) n
  all_inflow =
      grid-same (inflow q) (λ t s. cond (is_on side (In t s)) (inflow q t s) 0 + cond (is_on side (In t s)) 0 (inflow q t s)) (length q.windows) n (λ t s _ _ _. in_or_out (is_on side (In t s)) (inflow q t s))
      ∙ grid-add (λ t s. cond (is_on side (In t s)) (inflow q t s) 0) (λ t s. cond (is_on side (In t s)) 0 (inflow q t s)) (length q.windows) n
    where
      -- each node is on the side or off it
      in_or_out : (b : Bool) (n : ℕ) → n ≡ cond b n 0 + cond b 0 n
      in_or_out true n = omega arith
      in_or_out false n = omega arith

  -- what the gates of a step off the side let through
  gates : ℕ → ℕ
  gates t = sum_by (λ c. cond (is_on side (Channel t c) && not (is_on side (Pass t))) (limit_or_0 q t c) 0) (channels q) + cond (is_on side (Pass t)) (window q t) 0

  -- a channel that is inner in a step is on the side
  inner_on_inside : (t c : ℕ) → 1 ≤ t → t ≤ length q.windows → is_inner_on q (first_stretches n q side) t c ≡ true → is_on side (Channel t c) ≡ true
  inner_on_inside t c first last at =
      let some = Any-from_list_any (goes_past_on q t c) (first_stretches n q side) at in
      let parts = and_parts (goes_past q t some.1) (eqb (channel_of q some.1) c) some.4 in
      let run : IsRun q side some.1 = subst (IsRun q side) some.3 (all_runs some.0 some.1 some.2) in
      sym (ap (λ k. is_on side (Channel t k)) (eqb-true (channel_of q some.1) c parts.1)) ∙ inner_channel some.1 t run first last parts.0

  -- what counts where one test passes is counted where a weaker one does
  inner_limit : (a b : Bool) (n : ℕ) → (a ≡ true → b ≡ true) → cond a n 0 ≤ cond b n 0
  inner_limit true true n implies = omega arith
  inner_limit true false n implies = absurd (false≢true (implies refl))
  inner_limit false b n implies = omega arith

  -- the limits of the inner channels are among the gates'
  limit_sum_within : (t : ℕ) → 1 ≤ t → t ≤ length q.windows → is_on side (Pass t) ≡ false → limit_sum q (first_stretches n q side) t ≤ gates t
  unfolding gates
  limit_sum_within t first last outside =
      let off = not_from_false (is_on side (Pass t)) outside in
      omega (
        arith,
        sum_by-filter (limit_or_0 q t) (is_inner_on q (first_stretches n q side) t) (channels q),
        sum_by_range-le (λ c. cond (is_inner_on q (first_stretches n q side) t c) (limit_or_0 q t c) 0) (λ c. cond (is_on side (Channel t c) && not (is_on side (Pass t))) (limit_or_0 q t c) 0) 0 (length q.limits)
            (λ c _ _. inner_limit (is_inner_on q (first_stretches n q side) t c) (is_on side (Channel t c) && not (is_on side (Pass t))) (limit_or_0 q t c) (λ at. and_from (is_on side (Channel t c)) (not (is_on side (Pass t))) (inner_on_inside t c first last at) off)),
      )

  -- what may leave the inner stores of a step is what its gates let through
  leaving_within : (t : ℕ) → 1 ≤ t → t ≤ length q.windows → cond (is_inner q (first_stretches n q side) t) (leaving q (first_stretches n q side) (first_counts n q side) t) 0 ≤ gates t
  unfolding gates
  leaving_within t first last = elim (cases_Bool (is_inner q (first_stretches n q side) t)) [
    | inr none ↦ omega (arith, cond-false (is_inner q (first_stretches n q side) t) (leaving q (first_stretches n q side) (first_counts n q side) t) 0 none)
    | inl inner ↦ elim (cases_Bool (is_on side (Pass t))) [
      | inl inside ↦
          let unlisted = not_listed-filter (is_by_channels q side (first_stretches n q side)) t (steps q) (fails (is_inner q (first_stretches n q side) t) (is_on side (Pass t)) inside) in
          omega (arith, cond-true (is_inner q (first_stretches n q side) t) (leaving q (first_stretches n q side) (first_counts n q side) t) 0 inner, cond-false (is_listed (first_counts n q side) t) (limit_sum q (first_stretches n q side) t) (window q t) unlisted, cond-true (is_on side (Pass t)) (window q t) 0 inside)
      | inr outside ↦
          let listed = is_listed-filter (is_by_channels q side (first_stretches n q side)) t 1 (length q.windows) first (omega arith) (and_from (is_inner q (first_stretches n q side) t) (not (is_on side (Pass t))) inner (not_from_false (is_on side (Pass t)) outside)) in
          omega (arith, cond-true (is_inner q (first_stretches n q side) t) (leaving q (first_stretches n q side) (first_counts n q side) t) 0 inner, cond-true (is_listed (first_counts n q side) t) (limit_sum q (first_stretches n q side) t) (window q t) listed, limit_sum_within t first last outside)
    ]
  ]
    where
      -- a step whose pass is on the side is not counted by channels
      fails : (a b : Bool) → b ≡ true → (a && not b) ≡ false
      fails true true e = refl
      fails false true e = refl
      fails a false e = absurd (false≢true e)

  -- what may leave all inner steps is what their gates let through
  all_leaving : leaving_sum q (first_stretches n q side) (first_counts n q side) ≤ grid (λ t c. cond (is_on side (Channel t c) && not (is_on side (Pass t))) (limit_or_0 q t c) 0) (length q.windows) (length q.limits) + sum_by (λ t. cond (is_on side (Pass t)) (window q t) 0) (steps q)
  unfolding gates
  all_leaving =
      omega (
        arith,
        sum_by-filter (leaving q (first_stretches n q side) (first_counts n q side)) (is_inner q (first_stretches n q side)) (steps q),
        sum_by_range-le (λ t. cond (is_inner q (first_stretches n q side) t) (leaving q (first_stretches n q side) (first_counts n q side) t) 0) gates 1 (length q.windows) (λ t low high. leaving_within t low (omega arith)),
        sum_by-add (λ t. sum_by (λ c. cond (is_on side (Channel t c) && not (is_on side (Pass t))) (limit_or_0 q t c) 0) (channels q)) (λ t. cond (is_on side (Pass t)) (window q t) 0) (steps q),
      )

  -- the stretches are of those stores
  pub of_first : All (λ d. store_of q d < n) (first_stretches n q side)
  of_first =
      All-flat_map-range_with_len (λ d. store_of q d < n) (stretches_of q side) 0 n
      (λ s _ below. All-map (λ d. store_of q d < n) (stretch q side s) (filter (is_end side s) (steps q))
      (All-filter-range_with_len (λ t. store_of q (stretch q side s t) < n) (is_end side s) 1 (length q.windows) (λ t _ _ _. omega (arith, store_named q is s (omega (arith, few))))))

  -- what comes to them off the side
  off_side : grid (λ t s. cond (is_on side (In t s)) 0 (inflow q t s)) (length q.windows) n ≡ grid (λ t s. cond (is_on side (In t s)) 0 (a t s)) (length q.windows) n
  off_side =
      grid-same (λ t s. cond (is_on side (In t s)) 0 (inflow q t s)) (λ t s. cond (is_on side (In t s)) 0 (a t s)) (length q.windows) n
      (λ t s _ _ below. ap (cond (is_on side (In t s)) 0) (sym (as_comes t s below)))

  -- what comes to those stores, less the side's capacity, is at most the bound of the side's cut
  pub inflow_within : grid (inflow q) (length q.windows) n + (sum_by (held q) (first_stretches n q side) + leaving_sum q (first_stretches n q side) (first_counts n q side)) ≤ sum_by (coming q) (first_stretches n q side) + capacity_of (net_by q a) side
  inflow_within =
      omega (
        arith,
        all_inflow,
        all_coming,
        all_held,
        all_leaving,
        off_side,
        grid-wider (λ t s. cond (is_on side (In t s)) 0 (a t s)) (length q.windows) n (length q.rows) few,
        grid-wider (λ t s. cond (is_end side s t) (size q s t) 0) (length q.windows) n (length q.rows) few,
        capacity_kinds q a side cut.has_source cut.lacks_sink,
      )
