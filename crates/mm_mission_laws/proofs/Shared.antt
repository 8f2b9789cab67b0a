-- In one step, the stretches of a cut have stores of their own, so that what leaves them is within what leaves all
-- stores, or those of their channels.
use Rattle.std.proofs.Common.{◌≡◌, ℕ, ◌≤◌, Bool, true, false, cond, eqb, ◌&&◌, List, length, get_or, All}
use Rattle.std.proofs.Common.{refl, inl, inr, arith}
use Rattle.std.specs.Prelude.{filter, IsSome}
use Rattle.std.specs.List.{sum_by}
use Rattle.std.proofs.lemmas.Bool.{cases_Bool, both_ways, and_parts}
use Rattle.std.proofs.lemmas.Bool.Decides.{nat_tests}
use Rattle.std.proofs.lemmas.List.Folds.{list_any_at}
use Rattle.mm_base.proofs.Tests.{true-from_cond}
use Rattle.mm_base.proofs.Sums.{sum_by-le_each, sum_by-filter, sum_by_zeros}
use Rattle.mm_base.proofs.RangeSums.{sum_by_range-le}
use Rattle.mm_base.proofs.Groups.{sum_by-le_groups}
use Rattle.mm_problem.proofs.Limits.{limit_within}
use Rattle.mm_problem.specs.Dumping.{Dumping, limit, is_of, stores, stores_of, channels}
use Rattle.mm_plan.specs.declared.stretch.Stretch.{Stretch}
use Rattle.mm_cut.specs.Stretches.{store_of, channel_of, covers, goes_past, goes_past_on, is_inner, is_inner_on}
use Rattle.mm_cut.specs.Stretches.{AreStretches}
use Rattle.mm_cut.specs.Counts.{IsLimited}
use Rattle.mm_cut.proofs.StretchLosses.{inner_end-le}
use Rattle.mm_cut.proofs.Exchange.{by_store, inner_has_limit}

-- an inner step of a stretch is one of its steps
covers_inner : (q : Dumping) (t : ℕ) (d : Stretch) → goes_past q t d ≡ true → covers d t ≡ true
covers_inner q t d inner = let end = inner_end-le q.come d in grind (arith, nat_tests)

-- one test after the other, and both at once
passes_both : (a b : Bool) (n : ℕ) → cond b (cond a n 0) 0 ≤ cond (a && b) (cond b n 0) 0
passes_both true true n = omega arith
passes_both true false n = omega arith
passes_both false true n = omega arith
passes_both false false n = omega arith

passes_neither : (a b : Bool) (n : ℕ) → ((a && b) ≡ true → ⊥) → cond b (cond a n 0) 0 ≡ 0
passes_neither true true n fails = absurd (fails refl)
passes_neither true false n fails = refl
passes_neither false true n fails = refl
passes_neither false false n fails = refl

module _ (q : Dumping) (ds : List Stretch) (are : AreStretches q ds) (t : ℕ) (f : ℕ → ℕ) where
  -- what leaves the store of a stretch, where the step is an inner one
  abbrev pub leaves : Stretch → ℕ
  leaves d = cond (goes_past q t d) (f (store_of q d)) 0

  pub leaves_none : is_inner q ds t ≡ false → sum_by leaves ds ≡ 0
  leaves_none none =
      sum_by_zeros leaves ds
      (λ k d inside. elim (cases_Bool (goes_past q t (get_or ds k d))) [
        | inl inner ↦ absurd (both_ways (is_inner q ds t) none (list_any_at (goes_past q t) ds k d inside inner))
        | inr outer ↦ rw outer refl
      ])

  pub leaves_all : sum_by leaves ds ≤ sum_by f (stores q)
  leaves_all = by_store q ds t f (goes_past q t) are (covers_inner q t)

  -- of a channel
  abbrev of_channel : ℕ → ℕ → ℕ
  of_channel c s = cond (is_of q c s) (f s) 0

  abbrev leaves_on : ℕ → Stretch → ℕ
  leaves_on c d = cond (eqb (channel_of q d) c) (leaves d) 0

  leaves_on_none : (c : ℕ) → is_inner_on q ds t c ≡ false → sum_by (leaves_on c) ds ≡ 0
  leaves_on_none c none =
      sum_by_zeros (leaves_on c) ds
      (λ k d inside.
      let e : Stretch = get_or ds k d in
      passes_neither (goes_past q t e) (eqb (channel_of q e) c) (f (store_of q e))
      (λ on. both_ways (is_inner_on q ds t c) none (list_any_at (goes_past_on q t c) ds k d inside on)))

  leaves_on-le : (c : ℕ) → sum_by (leaves_on c) ds ≤ sum_by f (stores_of q c)
  leaves_on-le c =
      let each = sum_by-le_each (leaves_on c) (λ d. cond (goes_past_on q t c d) (of_channel c (store_of q d)) 0) ds
      (λ k d inside.
      let e : Stretch = get_or ds k d in
      passes_both (goes_past q t e) (eqb (channel_of q e) c) (f (store_of q e))) in
      let all_stores = by_store q ds t (of_channel c) (goes_past_on q t c) are
      (λ d on. covers_inner q t d (and_parts (goes_past q t d) (eqb (channel_of q d) c) on).0) in
      omega (arith, each, all_stores, sum_by-filter f (is_of q c) (stores q))

  module _ (rooms : ℕ → ℕ) (kept : (c : ℕ) → IsSome (limit q c t) → sum_by f (stores_of q c) ≤ rooms c)
      (limited : All (IsLimited q t) ds)
    where
      leaves_on_room : (c : ℕ) → sum_by (leaves_on c) ds ≤ cond (is_inner_on q ds t c) (rooms c) 0
      leaves_on_room c = elim (cases_Bool (is_inner_on q ds t c)) [
        | inr none ↦ rw none (omega (arith, leaves_on_none c none))
        | inl inner ↦
            let has = inner_has_limit q (λ _ _. 0) ds are t c limited inner in
            rw inner (omega (arith, leaves_on-le c, kept c has))
      ]

      -- within the rooms of the channels of the inner stores
      pub leaves_in_rooms : sum_by leaves ds ≤ sum_by rooms (filter (is_inner_on q ds t) (channels q))
      leaves_in_rooms =
          let groups = sum_by-le_groups leaves (channel_of q) (length q.limits) ds
          (λ k d inside some.
          let e : Stretch = get_or ds k d in
          limit_within q (channel_of q e) t
          (limited k d inside (true-from_cond (goes_past q t e) (f (store_of q e)) some))) in
          let each = sum_by_range-le (λ c. sum_by (leaves_on c) ds) (λ c. cond (is_inner_on q ds t c) (rooms c) 0) 0
          (length q.limits) (λ c _ _. leaves_on_room c) in
          omega (arith, groups, each, sum_by-filter rooms (is_inner_on q ds t) (channels q))
