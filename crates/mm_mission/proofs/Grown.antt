-- What a problem of a mission has in each step.
use Rattle.std.proofs.Common.{◌≡◌, ℕ, zero, suc, ◌+◌, ◌-◌, ◌*◌, ◌<◌, ◌≤◌, Bool, true, false, nat_lt, ◌==◌, List, []}
use Rattle.std.proofs.Common.{◌∷◌}
use Rattle.std.proofs.Common.{length, get_or, Some, None, refl, ap, ◌∙◌, inl, inr, arith}
use Rattle.std.specs.Prelude.{map, slice_index_or, if◌then◌else◌}
use Rattle.std.specs.List.{flat_map, range_with_len, list_any, position_or_len}
use Rattle.std.proofs.lemmas.Bool.{cases_Bool, cases_lt, both_ways}
use Rattle.std.proofs.lemmas.Bool.Decides.{nat_tests, Decides-eqb}
use Rattle.std.proofs.lemmas.List.{length-map, get_or-map, get_or_append_left, get_or-append_right}
use Rattle.std.proofs.lemmas.List.Folds.{list_any_none, list_any_at}
use Rattle.std.proofs.lemmas.List.FromFn.{length-map-range_with_len, get_or-map-range_with_len}
use Rattle.std.proofs.lemmas.List.Sums.{fails_before_first, passes_at_first}
use Rattle.mm_base.specs.declared.limits.TheConstants.{CHANNELS}
use Rattle.mm_base.proofs.Ranges.{is_listed-filter, not_listed-filter}
use Rattle.mm_problem.specs.Dumping.{Dumping, window, arrivals, limit, step_limit}
use Rattle.mm_problem.specs.Forecast.{limit_of, limits_of}
use Rattle.mm_mission.specs.declared.counter.Counter.{Counter}
use Rattle.mm_mission.specs.declared.counter.Counter.TheVariants.{Sent, Come}
use Rattle.mm_mission.specs.Mission.{MissionRows}
use Rattle.mm_mission.specs.Flows.{counted}
use Rattle.mm_mission.specs.Planned.{growth, growths, table, row_of, is_limited, limited, IsProblemOf}
use Rattle.mm_mission.specs.Laws.{GrowAt}

-- what stands at a place of lists of one length that are joined
pub table_at : {X : Type 0} (make : ℕ → List X) (w : ℕ) → ((t : ℕ) → length (make t) ≡ w) → (a n i j k : ℕ) (d : X)
    → i < n → j < w → k ≡ i * w + j → get_or (flat_map make (range_with_len a n)) k d ≡ get_or (make (a + i)) j d
table_at make w each a zero i j k d below within at = absurd (omega arith)
table_at make w each a (suc n) zero j k d below within at =
    let first : k ≡ j = omega arith in
    let here : k < length (make a) = omega (arith, each a) in
    let same : a + 0 ≡ a = omega arith in
    get_or_append_left (make a) (flat_map make (range_with_len (a + 1) n)) d k here ∙ rw (first, same) refl
table_at make w each a (suc n) (suc i) j k d below within at =
    let past : w ≤ k = omega arith in
    let rest : k - w ≡ i * w + j = omega arith in
    let same : a + 1 + i ≡ a + suc i = omega arith in
    get_or-append_right (make a) (flat_map make (range_with_len (a + 1) n)) w k d (each a) past
    ∙ table_at make w each (a + 1) n i j (k - w) d (omega arith) within rest
    ∙ ap (λ t. get_or (make t) j d) same

-- a cell of a table is what its counter grows by in its step
cell_at : (m : MissionRows) (counters : List Counter) (edges : List ℕ) (t j k : ℕ) (c : Counter) → 1 ≤ t
    → t < length edges → j < length counters → get_or counters j c ≡ c → k ≡ (t - 1) * length counters + j
    → get_or (table m counters edges) k 0 ≡ growth (counted m c) edges t
cell_at m counters edges t j k c first last within there at =
    let same : 1 + (t - 1) ≡ t = omega arith in
    let step : Counter → ℕ = λ e. growth (counted m e) edges t in
    table_at (growths m counters edges) (length counters)
    (λ u. length-map counters (λ e. growth (counted m e) edges u)) 1 (length edges - 1) (t - 1) j k 0 (omega arith)
    within
    at
    ∙ ap (λ u. get_or (growths m counters edges u) j 0) same ∙ get_or-map step counters j c 0 within ∙ ap step there

-- where an element passes, the first that does is in the list
first_below : (p : ℕ → Bool) (xs : List ℕ) → list_any p xs ≡ true → position_or_len p xs < length xs
first_below p xs some = elim (cases_lt (position_or_len p xs) (length xs)) [
  | inl below ↦ below
  | inr past ↦ absurd (both_ways (list_any p xs)
      (list_any_none p xs (λ k d within. fails_before_first p xs k d (omega arith))) some)
]

-- where none passes, there is no first one
none_below : (p : ℕ → Bool) (xs : List ℕ) → list_any p xs ≡ false
    → nat_lt (position_or_len p xs) (length xs) ≡ false
none_below p xs none = elim (cases_lt (position_or_len p xs) (length xs)) [
  | inl below ↦
      absurd (both_ways (list_any p xs) none (list_any_at p xs (position_or_len p xs) 0 below
      (passes_at_first p xs 0 below)))
  | inr past ↦ grind (arith, nat_tests)
]

-- without limits in the setup, a channel's limit is that of the step alone
limit_alone : (q : Dumping) (c t : ℕ) → q.limits ≡ limits_of [] → c < CHANNELS → limit q c t ≡ step_limit q c t
limit_alone q c t none below =
    let many : length (limits_of []) ≡ CHANNELS = length-map-range_with_len (limit_of []) 0 CHANNELS in
    let within : c < length (limits_of []) = omega (arith, many) in
    let test : nat_lt c (length (limits_of [])) ≡ true = grind (arith, nat_tests) in
    let missing : slice_index_or (limits_of []) c None ≡ None =
    get_or-map-range_with_len (limit_of []) 0 CHANNELS c c None below (omega arith) in
    rw (none, test, missing) refl

module _ (m : MissionRows) (edges : List ℕ) (q : Dumping) (t : ℕ) (h : IsProblemOf m edges q) (first : 1 ≤ t)
    (last : t < length edges)
  where
    window_grows : window q t ≡ growth (counted m (Sent None)) edges t
    window_grows = rw h.windows (cell_at m (Sent None ∷ []) edges t 0 (t - 1) (Sent None) first last (omega arith) refl
        (omega arith))

    arrivals_grow : (s : ℕ) → s < length m.stores → arrivals q s t ≡ growth (counted m (Come s)) edges t
    arrivals_grow s below =
        let n = length m.stores in
        let rows : length q.rows ≡ n = ap length h.rows ∙ length-map m.stores row_of in
        let counters : List Counter = map Come (range_with_len 0 n) in
        let many : length counters ≡ n = length-map-range_with_len Come 0 n in
        rw (rows, h.arrived) (cell_at m counters edges t s ((t - 1) * n + s) (Come s) first last (omega (arith, many))
        (get_or-map-range_with_len Come 0 n s s (Come s) below (omega arith)) (rw many refl))

    limits_grow : (c : ℕ) → c < CHANNELS → limit q c t
        ≡ (if is_limited m.passes c then Some (growth (counted m (Sent (Some c))) edges t) else None)
    limits_grow c below =
        let own = limited m in
        let place = position_or_len (λ k. k == c) own in
        let counters : List Counter = map (λ k. Sent (Some k)) own in
        let many : length counters ≡ length own = length-map own (λ k. Sent (Some k)) in
        limit_alone q c t h.no_limits below ∙ rw (h.limited, h.step_limits) (elim (cases_Bool (is_limited m.passes c)) [
          | inl has ↦
              let within : place < length own = first_below (λ k. k == c) own
              (is_listed-filter (is_limited m.passes) c 0 CHANNELS (omega arith) (omega arith) has) in
              let test : nat_lt place (length own) ≡ true = grind (arith, nat_tests) in
              let there : get_or own place c ≡ c = (Decides-eqb (get_or own place c) c).0
              (passes_at_first (λ k. k == c) own c within) in
              let cell = cell_at m counters edges t place ((t - 1) * length own + place) (Sent (Some c)) first last
              (omega (arith, many)) (get_or-map (λ k. Sent (Some k)) own place c (Sent (Some c)) within
              ∙ ap (λ k. Sent (Some k)) there) (rw many refl) in
              rw (has, test) (ap Some cell)
          | inr lacks ↦
              let test : nat_lt place (length own) ≡ false = none_below (λ k. k == c) own
              (not_listed-filter (is_limited m.passes) c (range_with_len 0 CHANNELS) lacks) in
              rw (lacks, test) refl
        ])

-- the law
pub steps_grow : (m : MissionRows) (edges : List ℕ) (q : Dumping) (t : ℕ) → IsProblemOf m edges q → 1 ≤ t
    → t < length edges → GrowAt m edges q t
steps_grow m edges q t h first last = record {
  window = window_grows m edges q t h first last;
  arrivals = arrivals_grow m edges q t h first last;
  limits = limits_grow m edges q t h first last;
}
