-- Only what a cut counts can lower its bound.
use Rattle.std.proofs.Common.{◌≡◌, ℕ, ◌≤◌, Bool, true, false, cond, eqb, ◌&&◌, not, List, length, get_or, All, refl, sym, ap, ◌∙◌, subst, inl, inr, arith}
use Rattle.std.specs.Prelude.{IsSome, filter, nat_le, nat_lt, ◌≤ℤ◌}
use Rattle.std.specs.List.{sum_by, list_any, range_with_len}
use Rattle.std.proofs.lemmas.Bool.{cases_Bool, and_parts, eqb-true}
use Rattle.std.proofs.lemmas.Bool.Decides.{nat_tests}
use Rattle.std.proofs.lemmas.Int.{ints}
use Rattle.std.proofs.lemmas.List.Folds.{Any-from_list_any, list_any_at}
use Rattle.std.proofs.lemmas.List.Elements.{All-contains, filter_agree}
use Rattle.mm_base.proofs.Sums.{sum_by-le_each, sum_by-filter}
use Rattle.mm_base.proofs.RangeSums.{sum_by_range-le}
use Rattle.mm_problem.specs.Dumping.{Dumping, start, limit, arrivals, steps, channels}
use Rattle.mm_plan.specs.declared.stretch.Stretch.{Stretch}
use Rattle.mm_cut.specs.Stretches.{store_of, channel_of, covers, inner_end, goes_past, goes_past_on, is_inner, is_inner_on, IsStretch}
use Rattle.mm_cut.specs.Counts.{is_listed, IsLimited, IsCounted}
use Rattle.mm_cut.specs.Cuts.{IsCut, coming, coming_sum, held, held_sum, limit_or_0, limit_sum, leaving, leaving_sum, counts_window, bound}
use Rattle.mm_cut.specs.Changes.{ChangesStretch, HelpsNowhere, AgreeInCut, CutsCountAlike, OnlyCountedHelps}
use Rattle.mm_cut.proofs.Duality.{cuts_bound_losses}
use Rattle.mm_cut.proofs.Exchange.{inner_has_limit, listed_is_counted}

-- terms that pass and are no smaller
cond-le : (b : Bool) (i j : ℕ) → (b ≡ true → i ≤ j) → cond b i 0 ≤ cond b j 0
cond-le true i j le = le refl
cond-le false i j le = omega arith

-- sums over what passes, where a longer range is none
pub sum_by_passing-le : (p : ℕ → Bool) (f g : ℕ → ℕ) (a m n : ℕ) → n ≡ m → ((t : ℕ) → p t ≡ true → f t ≤ g t) → sum_by f (filter p (range_with_len a m)) ≤ sum_by g (filter p (range_with_len a n))
sum_by_passing-le p f g a m n same each =
    let all = sum_by_range-le (λ t. cond (p t) (f t) 0) (λ t. cond (p t) (g t) 0) a m (λ t _ _. cond-le (p t) (f t) (g t) (each t)) in
    rw same (omega (arith, all, sum_by-filter f p (range_with_len a m), sum_by-filter g p (range_with_len a m)))

-- where arrivals come at the same time, a stretch goes past the same steps
same_past : (q r : Dumping) → r.come ≡ q.come → (t : ℕ) (d : Stretch) → goes_past r t d ≡ goes_past q t d
same_past q r same t d = ap (λ come. nat_le d.first t && nat_lt t (inner_end come d)) same

-- and the same steps are inner
same_inner : (q r : Dumping) → r.come ≡ q.come → (ds : List Stretch) (t : ℕ) → is_inner r ds t ≡ is_inner q ds t
same_inner q r same ds t =
    ap (λ come. list_any (λ (d : Stretch). nat_le d.first t && nat_lt t (inner_end come d)) ds) same

module _ (q r : Dumping) (ds : List Stretch) (ts : List ℕ) (cut : IsCut q ds ts) (h : HelpsNowhere q r ds ts) where
  -- no less comes in over a stretch
  coming-more : (d : Stretch) → ChangesStretch ◌≤◌ q r ts d → coming q d ≤ coming r d
  coming-more d is =
      let opens = cond-le (eqb d.first 1) (start q (store_of q d)) (start r (store_of r d)) (λ first. is.start (eqb-true d.first 1 first)) in
      let arrive = sum_by_passing-le (covers d) (arrivals q (store_of q d)) (arrivals r (store_of r d)) 1 (length q.windows) (length r.windows) h.steps is.arrivals in
      omega (arith, opens, arrive)

  coming_sum-more : coming_sum q ds ≤ coming_sum r ds
  coming_sum-more = sum_by-le_each (coming q) (coming r) ds (λ k d inside. coming-more (get_or ds k d) (h.stretches k d inside))

  -- no more is held
  held_sum-less : held_sum r ds ≤ held_sum q ds
  held_sum-less = sum_by-le_each (held r) (held q) ds (λ k d inside. (h.stretches k d inside).size)

  -- in a counted step the inner stores have their channels
  same_channels : (t c : ℕ) → is_listed ts t ≡ true → is_inner_on r ds t c ≡ true → is_inner_on q ds t c ≡ true
  same_channels t c listed inner =
      let some = Any-from_list_any (goes_past_on r t c) ds inner in
      let on = and_parts (goes_past r t some.1) (eqb (channel_of r some.1) c) some.4 in
      let past : goes_past q t some.1 ≡ true = sym (same_past q r h.come t some.1) ∙ on.0 in
      let is = All-contains (ChangesStretch ◌≤◌ q r ts) ds some.1 h.stretches (some.0, some.2, some.3) in
      let same = is.channel t listed past in
      let there : goes_past_on q t c some.1 ≡ true = rw (past, sym same) on.1 in
      list_any_at (goes_past_on q t c) ds some.0 some.1 some.2 (rw some.3 there)

  -- no more leaves by the limits that count in a step
  limit_sum-less : (t : ℕ) → is_listed ts t ≡ true → limit_sum r ds t ≤ limit_sum q ds t
  limit_sum-less t listed =
      let each : (c : ℕ) → cond (is_inner_on r ds t c) (limit_or_0 r t c) 0 ≤ cond (is_inner_on q ds t c) (limit_or_0 q t c) 0 =
      λ c. elim (cases_Bool (is_inner_on r ds t c)) [
        | inl inner ↦ let there = same_channels t c listed inner in rw (inner, there) (h.limits t c listed there)
        | inr none ↦ rw none (omega arith)
      ] in
      let all = sum_by_range-le (λ c. cond (is_inner_on r ds t c) (limit_or_0 r t c) 0) (λ c. cond (is_inner_on q ds t c) (limit_or_0 q t c) 0) 0 (length q.limits) (λ c _ _. each c) in
      let of_r : limit_sum r ds t ≡ sum_by (limit_or_0 r t) (filter (is_inner_on r ds t) (channels q)) = ap (λ n. sum_by (limit_or_0 r t) (filter (is_inner_on r ds t) (range_with_len 0 n))) h.channels in
      omega (arith, of_r, all, sum_by-filter (limit_or_0 r t) (is_inner_on r ds t) (channels q), sum_by-filter (limit_or_0 q t) (is_inner_on q ds t) (channels q))

  -- no more leaves in an inner step
  leaving-less : (t : ℕ) → is_inner q ds t ≡ true → leaving r ds ts t ≤ leaving q ds ts t
  leaving-less t inner = elim (cases_Bool (is_listed ts t)) [
    | inl listed ↦ rw listed (limit_sum-less t listed)
    | inr other ↦ let counts : counts_window q ds ts t ≡ true = rw (inner, other) refl in rw other (h.windows t counts)
  ]

  leaving_sum-less : leaving_sum r ds ts ≤ leaving_sum q ds ts
  leaving_sum-less =
      let same : leaving_sum r ds ts ≡ sum_by (leaving r ds ts) (filter (is_inner q ds) (steps r)) =
      ap (sum_by (leaving r ds ts)) (filter_agree (is_inner r ds) (is_inner q ds) (same_inner q r h.come ds) (steps r)) in
      let all = sum_by_passing-le (is_inner q ds) (leaving r ds ts) (leaving q ds ts) 1 (length r.windows)
      (length q.windows) (sym h.steps) leaving-less in
      omega (arith, same, all)

  -- the bound is no lower
  pub bound-more : bound q ds ts ≤ℤ bound r ds ts
  bound-more = omega (arith, ints, coming_sum-more, held_sum-less, leaving_sum-less)

  -- in a counted step the channels of the inner stores have limits
  limited_at : (t : ℕ) → is_listed ts t ≡ true → All (IsLimited r t) ds
  limited_at t listed k d inside inner =
      let e : Stretch = get_or ds k d in
      let past : goes_past q t e ≡ true = sym (same_past q r h.come t e) ∙ inner in
      let same = (h.stretches k d inside).channel t listed past in
      let on : goes_past_on q t (channel_of q e) e ≡ true = rw past (grind (arith, nat_tests)) in
      let there = list_any_at (goes_past_on q t (channel_of q e)) ds k d inside on in
      subst (λ c. IsSome (limit r c t)) (sym same) (h.limited t (channel_of q e) listed there)

  counted_too : All (IsCounted r ds) ts
  counted_too k d inside =
      let t : ℕ = get_or ts k d in
      let self : eqb t t ≡ true = grind (arith, nat_tests) in
      let listed : is_listed ts t ≡ true = list_any_at (λ j. eqb j t) ts k d inside self in
      record { inner = same_inner q r h.come ds t ∙ (cut.counted.each k d inside).inner; limited = limited_at t listed }

  stretches_too : All (IsStretch r) ds
  stretches_too k d inside =
      let is = cut.stretches.each k d inside in
      record { store = (h.stretches k d inside).store; first = is.first; order = is.order; last = rw h.steps is.last }

  -- the cut is one of the other problem too
  pub same_cut : IsCut r ds ts
  same_cut = record {
    stretches = record { each = stretches_too; apart = cut.stretches.apart };
    counted = record { each = counted_too; once = cut.counted.once };
  }

pub only_counted_helps : OnlyCountedHelps
only_counted_helps q r ds ts x cut h fits =
    omega (arith, ints, bound-more q r ds ts cut h, cuts_bound_losses r x ds ts fits (same_cut q r ds ts cut h))

-- where they agree, the one helps nowhere ..
agree_forth : (q r : Dumping) (ds : List Stretch) (ts : List ℕ) → AgreeInCut q r ds ts → HelpsNowhere q r ds ts
agree_forth q r ds ts h = record {
  come = h.come;
  steps = h.steps;
  channels = h.channels;
  stretches = λ k d inside.
      let is = h.stretches k d inside in
      record {
        store = is.store;
        start = λ first. omega (arith, is.start first);
        arrivals = λ t at. omega (arith, is.arrivals t at);
        size = omega (arith, is.size);
        channel = is.channel;
      };
  windows = λ t at. omega (arith, h.windows t at);
  limited = h.limited;
  limits = λ t c listed inner. omega (arith, h.limits t c listed inner);
}

-- .. and neither does the other
agree_back : (q r : Dumping) (ds : List Stretch) (ts : List ℕ) → IsCut q ds ts → AgreeInCut q r ds ts → HelpsNowhere r q ds ts
agree_back q r ds ts cut h =
    let inner_too : (t c : ℕ) → is_listed ts t ≡ true → is_inner_on r ds t c ≡ true → is_inner_on q ds t c ≡ true =
    same_channels q r ds ts cut (agree_forth q r ds ts h) in
    record {
      come = sym h.come;
      steps = sym h.steps;
      channels = sym h.channels;
      stretches = λ k d inside.
          let is = h.stretches k d inside in
          record {
            store = (cut.stretches.each k d inside).store;
            start = λ first. omega (arith, is.start first);
            arrivals = λ t at. omega (arith, is.arrivals t at);
            size = omega (arith, is.size);
            channel = λ t listed inner. sym (is.channel t listed (sym (same_past q r h.come t (get_or ds k d)) ∙ inner));
          };
      windows = λ t at. omega (arith, h.windows t (ap (λ b. b && not (is_listed ts t)) (sym (same_inner q r h.come ds t)) ∙ at));
      limited = λ t c listed inner.
          let counted = listed_is_counted q (λ _ _. 0) ds cut.stretches ts t cut.counted listed in
          inner_has_limit q (λ _ _. 0) ds cut.stretches t c counted.limited (inner_too t c listed inner);
      limits = λ t c listed inner. omega (arith, h.limits t c listed (inner_too t c listed inner));
    }

pub cuts_count_alike : CutsCountAlike
cuts_count_alike q r ds ts cut h =
    let forth = agree_forth q r ds ts h in
    let cut_too = same_cut q r ds ts cut forth in
    (cut_too, omega (arith, ints, bound-more q r ds ts cut forth, bound-more r q ds ts cut_too (agree_back q r ds ts cut h)))
