-- In one step, the stretches of a cut have stores of their own, so that what they lose and what leaves them is bounded.
use Rattle.std.proofs.Common.{◌≡◌, ℕ, ◌<◌, ◌≤◌, Bool, true, false, cond, eqb, ◌&&◌, List, length, get_or, All, refl, sym, ap, ◌∙◌, subst, inl, inr, arith}
use Rattle.std.specs.Prelude.{◌≢◌, Option, Some, None, unwrap_or, IsSome}
use Rattle.std.specs.List.{sum_by, range_with_len}
use Rattle.std.specs.Str.{bytes_eq}
use Rattle.std.proofs.lemmas.Bool.{cases_Bool, both_ways, false≢true, and_parts, eqb-true}
use Rattle.std.proofs.lemmas.Bool.Decides.{nat_tests}
use Rattle.std.proofs.lemmas.List.Elements.{All-contains}
use Rattle.std.proofs.lemmas.List.Folds.{Any-from_list_any, list_any_at}
use Rattle.std.proofs.lemmas.List.Sums.{passes_at_first}
use Rattle.std.proofs.lemmas.Slice.Eq.{bytes_eq-Decides}
use Rattle.mm_base.proofs.Tests.{true-from_cond}
use Rattle.mm_base.proofs.Sums.{sum_by-le_each, sum_by-filter, sum_by_zeros, sum_by-swap}
use Rattle.mm_base.proofs.RangeSums.{sum_by_range-le}
use Rattle.mm_base.proofs.Groups.{sum_by-le_groups, sum_by-le_places}
use Rattle.mm_problem.proofs.Limits.{limit_within}
use Rattle.mm_problem.specs.Dumping.{Dumping, no_row, place, limit, window, is_of, stores, stores_of, channels, steps}
use Rattle.mm_plan.specs.Volumes.{Amounts, lost, first_loss}
use Rattle.mm_plan.specs.Fit.{in_step, FitsAt, Fits}
use Rattle.mm_plan.specs.declared.stretch.Stretch.{Stretch}
use Rattle.mm_cut.specs.Stretches.{store_of, channel_of, covers, goes_past, goes_past_on, is_inner, is_inner_on, IsStretch, AreApart, AreStretches}
use Rattle.mm_cut.specs.Counts.{is_listed, IsLimited, IsCounted, AreCounted}
use Rattle.mm_cut.specs.Cuts.{limit_or_0, limit_sum, leaving, leaving_sum}
use Rattle.mm_cut.proofs.StretchLosses.{inner_end-le, lost_in, leaves_in}

-- two identifiers with one place among the stores are one
same_place : (q : Dumping) (a b : List ℕ) → place q a < length q.rows → place q a ≡ place q b → a ≡ b
same_place q a b within same =
    let at_a = (bytes_eq-Decides (get_or q.rows (place q a) no_row).id a).0 (passes_at_first (λ r. bytes_eq r.id a) q.rows no_row within) in
    let at_b = (bytes_eq-Decides (get_or q.rows (place q b) no_row).id b).0 (passes_at_first (λ r. bytes_eq r.id b) q.rows no_row (omega arith)) in
    sym at_a ∙ ap (λ s. (get_or q.rows s no_row).id) same ∙ at_b

-- an inner step of a stretch is one of its steps
covers_inner : (q : Dumping) (t : ℕ) (d : Stretch) → goes_past q t d ≡ true → covers d t ≡ true
covers_inner q t d inner = let end = inner_end-le q.come d in grind (arith, nat_tests)

-- two stretches that share a step have stores of their own
other_stores : (q : Dumping) (d e : Stretch) (t : ℕ) → IsStretch q d → AreApart d e → covers d t ≡ true → covers e t ≡ true → store_of q d ≢ store_of q e
other_stores q d e t is apart at_d at_e same =
    let one_store = same_place q d.store e.store is.store same in
    elim (apart one_store) [ inl before ↦ grind (arith, nat_tests) | inr after ↦ grind (arith, nat_tests) ]

-- over stretches of the first stores that are met in one step, a sum over their stores is at most the sum over those
by_first_stores : (n : ℕ) (q : Dumping) (ds : List Stretch) (t : ℕ) (f : ℕ → ℕ) (test : Stretch → Bool)
    → AreStretches q ds
    → All (λ d. store_of q d < n) ds
    → ((d : Stretch) → test d ≡ true → covers d t ≡ true)
    → sum_by (λ d. cond (test d) (f (store_of q d)) 0) ds ≤ sum_by f (range_with_len 0 n)
by_first_stores n q ds t f test are first meets =
    sum_by-le_places f test (store_of q) n ds (λ k d inside _. first k d inside)
    (λ i j d before inside at_i at_j.
    let is = are.each i d (omega arith) in
    other_stores q (get_or ds i d) (get_or ds j d) t is (are.apart i j d before inside) (meets _ at_i) (meets _ at_j))

-- and of any stores at most the sum over all stores
pub by_store : (q : Dumping) (ds : List Stretch) (t : ℕ) (f : ℕ → ℕ) (test : Stretch → Bool)
    → AreStretches q ds
    → ((d : Stretch) → test d ≡ true → covers d t ≡ true)
    → sum_by (λ d. cond (test d) (f (store_of q d)) 0) ds ≤ sum_by f (stores q)
by_store q ds t f test are = by_first_stores (length q.rows) q ds t f test are (λ k d inside. (are.each k d inside).store)

some_value : (o : Option ℕ) → IsSome o → o ≡ Some (unwrap_or o 0)
some_value None some = absurd (false≢true some)
some_value (Some n) some = refl

-- one test after the other, and both at once
passes_both : (a b : Bool) (n : ℕ) → cond b (cond a n 0) 0 ≤ cond (a && b) (cond b n 0) 0
passes_both true true n = omega arith
passes_both true false n = omega arith
passes_both false true n = omega arith
passes_both false false n = omega arith

passes_neither : (a b : Bool) (n : ℕ) → ((a && b) ≡ true → ⊥) → cond b (cond a n 0) 0 ≡ 0
passes_neither true true n fails = absurd (fails refl)
passes_neither true false n fails = refl
passes_neither false true n fails = refl
passes_neither false false n fails = refl

module _ (q : Dumping) (x : Amounts) (ds : List Stretch) (are : AreStretches q ds) where
  -- what stretches of the first stores lose is at most what those stores lose
  pub lost_in_first : (n : ℕ) → All (λ d. store_of q d < n) ds → sum_by (λ d. sum_by (lost_in q x d) (steps q)) ds ≤ first_loss n q x
  lost_in_first n first =
      let in_step : ℕ → ℕ = λ t. sum_by (λ s. lost q x s t) (range_with_len 0 n) in
      let each =
      sum_by_range-le (λ t. sum_by (λ d. lost_in q x d t) ds) in_step 1 (length q.windows)
      (λ t _ _. by_first_stores n q ds t (λ s. lost q x s t) (λ d. covers d t) are first (λ d at. at)) in
      omega (arith, each, sum_by-swap (lost_in q x) ds (steps q), sum_by-swap (lost q x) (range_with_len 0 n) (steps q))

  -- in a step that is inner in no stretch, nothing leaves inner stores
  leaves_in_none : (t : ℕ) → is_inner q ds t ≡ false → sum_by (leaves_in q x t) ds ≡ 0
  leaves_in_none t none =
      sum_by_zeros (leaves_in q x t) ds
      (λ k d inside. elim (cases_Bool (goes_past q t (get_or ds k d))) [
        | inl inner ↦ absurd (both_ways (is_inner q ds t) none (list_any_at (goes_past q t) ds k d inside inner))
        | inr outer ↦ rw outer refl
      ])

  -- what leaves inner stores in a step is within its window
  leaves_in_window : (t : ℕ) → FitsAt q x t → sum_by (leaves_in q x t) ds ≤ window q t
  leaves_in_window t fits =
      omega (arith, fits.windowed, by_store q ds t (in_step x t) (goes_past q t) are (covers_inner q t))

  -- what is to leave a store in the step, where it is of the channel
  abbrev of_channel : ℕ → ℕ → ℕ → ℕ
  of_channel t c s = cond (is_of q c s) (in_step x t s) 0

  -- what is to leave the store of a stretch in the step, where it is inner and of the channel
  abbrev leaves_on : ℕ → ℕ → Stretch → ℕ
  leaves_on t c d = cond (eqb (channel_of q d) c) (leaves_in q x t d) 0

  -- where no store of the channel is inner, nothing leaves
  leaves_on_none : (t c : ℕ) → is_inner_on q ds t c ≡ false → sum_by (leaves_on t c) ds ≡ 0
  leaves_on_none t c none =
      sum_by_zeros (leaves_on t c) ds
      (λ k d inside.
      let e : Stretch = get_or ds k d in
      passes_neither (goes_past q t e) (eqb (channel_of q e) c) (x (store_of q e) t)
      (λ on. both_ways (is_inner_on q ds t c) none (list_any_at (goes_past_on q t c) ds k d inside on)))

  -- what leaves the inner stores of a channel is at most what leaves all its stores
  leaves_on-le : (t c : ℕ) → sum_by (leaves_on t c) ds ≤ sum_by (in_step x t) (stores_of q c)
  leaves_on-le t c =
      let each =
      sum_by-le_each (leaves_on t c) (λ d. cond (goes_past_on q t c d) (of_channel t c (store_of q d)) 0) ds
      (λ k d inside.
      let e : Stretch = get_or ds k d in
      passes_both (goes_past q t e) (eqb (channel_of q e) c) (x (store_of q e) t)) in
      let all_stores =
      by_store q ds t (of_channel t c) (goes_past_on q t c) are
      (λ d on. covers_inner q t d (and_parts (goes_past q t d) (eqb (channel_of q d) c) on).0) in
      omega (arith, each, all_stores, sum_by-filter (in_step x t) (is_of q c) (stores q))

  -- a channel of an inner store has a limit, where each has one
  pub inner_has_limit : (t c : ℕ) → All (IsLimited q t) ds → is_inner_on q ds t c ≡ true → IsSome (limit q c t)
  inner_has_limit t c limited inner =
      let some = Any-from_list_any (goes_past_on q t c) ds inner in
      let on = and_parts (goes_past q t some.1) (eqb (channel_of q some.1) c) some.4 in
      let has_limit = All-contains (IsLimited q t) ds some.1 limited (some.0, some.2, some.3) on.0 in
      subst (λ k. IsSome (limit q k t)) (eqb-true (channel_of q some.1) c on.1) has_limit

  -- what leaves the inner stores of a channel is within its limit
  leaves_on_limit : (t c : ℕ)
      → FitsAt q x t
      → All (IsLimited q t) ds
      → sum_by (leaves_on t c) ds ≤ cond (is_inner_on q ds t c) (limit_or_0 q t c) 0
  leaves_on_limit t c fits limited = elim (cases_Bool (is_inner_on q ds t c)) [
    | inr none ↦ rw none (omega (arith, leaves_on_none t c none))
    | inl inner ↦
        let is_limit = some_value (limit q c t) (inner_has_limit t c limited inner) in
        rw inner (omega (arith, leaves_on-le t c, fits.limited c (limit_or_0 q t c) is_limit))
  ]

  -- what leaves inner stores in a step is within the limits of their channels, where each has one
  leaves_in_limits : (t : ℕ) → FitsAt q x t → All (IsLimited q t) ds → sum_by (leaves_in q x t) ds ≤ limit_sum q ds t
  leaves_in_limits t fits limited =
      let groups =
      sum_by-le_groups (leaves_in q x t) (channel_of q) (length q.limits) ds
      (λ k d inside some.
      let e : Stretch = get_or ds k d in
      limit_within q (channel_of q e) t (limited k d inside (true-from_cond (goes_past q t e) (x (store_of q e) t) some))) in
      let each =
      sum_by_range-le (λ c. sum_by (leaves_on t c) ds) (λ c. cond (is_inner_on q ds t c) (limit_or_0 q t c) 0)
      0 (length q.limits) (λ c _ _. leaves_on_limit t c fits limited) in
      omega (arith, groups, each, sum_by-filter (limit_or_0 q t) (is_inner_on q ds t) (channels q))

  -- a listed step is one that is counted
  pub listed_is_counted : (ts : List ℕ) (t : ℕ) → AreCounted q ds ts → is_listed ts t ≡ true → IsCounted q ds t
  listed_is_counted ts t counted listed =
      let at = Any-from_list_any (λ k. eqb k t) ts listed in
      subst (IsCounted q ds) (at.3 ∙ eqb-true at.1 t at.4) (counted.each at.0 at.1 at.2)

  -- what leaves inner stores in a step is at most what the cut counts for it
  leaves_in_step : (ts : List ℕ) (t : ℕ)
      → FitsAt q x t
      → AreCounted q ds ts
      → sum_by (leaves_in q x t) ds ≤ cond (is_inner q ds t) (leaving q ds ts t) 0
  leaves_in_step ts t fits counted = elim (cases_Bool (is_inner q ds t)) [
    | inr none ↦ rw none (omega (arith, leaves_in_none t none))
    | inl inner ↦ rw inner (elim (cases_Bool (is_listed ts t)) [
      | inl listed ↦ rw listed (leaves_in_limits t fits (listed_is_counted ts t counted listed).limited)
      | inr other ↦ rw other (leaves_in_window t fits)
    ])
  ]

  -- what leaves inner stores in all steps is at most what the cut counts
  pub leaves_in_all : (ts : List ℕ)
      → Fits q x
      → AreCounted q ds ts
      → sum_by (λ d. sum_by (λ t. leaves_in q x t d) (steps q)) ds ≤ leaving_sum q ds ts
  leaves_in_all ts fits counted =
      let each =
      sum_by_range-le (λ t. sum_by (leaves_in q x t) ds) (λ t. cond (is_inner q ds t) (leaving q ds ts t) 0)
      1 (length q.windows) (λ t first last. leaves_in_step ts t (fits t first (omega arith)) counted) in
      let swapped = sum_by-swap (λ d t. leaves_in q x t d) ds (steps q) in
      omega (arith, each, swapped, sum_by-filter (leaving q ds ts) (is_inner q ds) (steps q))
