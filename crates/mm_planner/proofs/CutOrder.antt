-- A cut in another order is a cut with the same bound.
use Rattle.std.proofs.Common.{◌≡◌, ℕ, ◌+◌, ◌<◌, cond, ◌==◌, List, length, get_or, refl, sym, ap, ◌∙◌, subst, inl, inr, arith}
use Rattle.std.specs.Prelude.{◌≢◌, AllPairs, IsTrue, filter, pos, ◌-ℤ◌}
use mathlib.Core.Path.{fun_ext}
use Rattle.std.specs.List.{sum_by, swap}
use Rattle.std.specs.List.Sorted.{IsPermutation}
use Rattle.std.proofs.lemmas.Bool.{cases_eq, cases_lt}
use Rattle.std.proofs.lemmas.Bool.Decides.{nat_tests}
use Rattle.std.proofs.lemmas.List.Edits.{Swapped, swapped_from_swap, length-swap}
use Rattle.std.proofs.lemmas.List.Elements.{All-weaker}
use Rattle.std.proofs.lemmas.List.Sorted.{IsPermutation-keeps, All-permutation, sum_by-IsPermutation, list_any-IsPermutation}
use Rattle.mm_problem.specs.Dumping.{Dumping, window, steps, channels}
use Rattle.mm_plan.specs.declared.stretch.Stretch.{Stretch}
use Rattle.mm_cut.specs.Stretches.{goes_past, goes_past_on, is_inner, is_inner_on, IsStretch, AreApart}
use Rattle.mm_cut.specs.Counts.{is_listed, IsLimited, IsCounted}
use Rattle.mm_cut.specs.Cuts.{IsCut, bound, coming, held, limit_or_0, limit_sum, leaving, leaving_sum}

-- ---- pairs of elements

-- the place of an element before the elements at a and b were exchanged
old_place : ℕ → ℕ → ℕ → ℕ
old_place a b m = cond (m == a) b (cond (m == b) a m)

old_place_within : (a b m n : ℕ) → a < n → b < n → m < n → old_place a b m < n
unfolding old_place
old_place_within a b m n at_a at_b at_m = grind (arith, nat_tests)

old_places_differ : (a b i j : ℕ) → i ≢ j → old_place a b i ≢ old_place a b j
unfolding old_place
old_places_differ a b i j other same = grind (arith, nat_tests)

stood_at : {X : Type 0} (f g : ℕ → X) (a b m : ℕ) → Swapped f g a b → g m ≡ f (old_place a b m)
unfolding old_place
stood_at f g a b m swapped = elim (cases_eq m a) [
  | inl at_a ↦ ap g at_a ∙ swapped.0 ∙ ap f (grind (arith, nat_tests))
  | inr not_a ↦ elim (cases_eq m b) [
    | inl at_b ↦ ap g at_b ∙ swapped.1 ∙ ap f (grind (arith, nat_tests))
    | inr not_b ↦ swapped.2 m not_a not_b ∙ ap f (grind (arith, nat_tests))
  ]
]

-- R holds of each two elements at places of their own
abbrev HoldsApart : {X : Type 0} → (X → X → Type 0) → List X → Type 0
HoldsApart {X} R xs = (i j : ℕ) (d : X) → i ≢ j → i < length xs → j < length xs → R (get_or xs i d) (get_or xs j d)

-- an exchange keeps it
HoldsApart-swap : {X : Type 0} (R : X → X → Type 0) (xs : List X) (a b : ℕ) → a < length xs → b < length xs → HoldsApart R xs → HoldsApart R (swap xs a b)
HoldsApart-swap R xs a b at_a at_b holds i j d other at_i at_j =
    let n : length (swap xs a b) ≡ length xs = length-swap xs a b in
    let swapped = swapped_from_swap xs (swap xs a b) a b d at_a at_b refl in
    let stood = λ (m : ℕ). stood_at (λ k. get_or xs k d) (λ k. get_or (swap xs a b) k d) a b m swapped in
    let of_i = old_place_within a b i (length xs) at_a at_b (omega (arith, n, at_i)) in
    let of_j = old_place_within a b j (length xs) at_a at_b (omega (arith, n, at_j)) in
    subst (λ x. R x (get_or (swap xs a b) j d)) (sym (stood i))
    (subst (R (get_or xs (old_place a b i) d)) (sym (stood j)) (holds (old_place a b i) (old_place a b j) d (old_places_differ a b i j other) of_i of_j))

-- what holds of each two elements, whichever is first, holds in every order
pub AllPairs-permutation : {X : Type 0} (R : X → X → Type 0) → ((x y : X) → R x y → R y x) → (xs ys : List X) → IsPermutation xs ys → AllPairs R xs → AllPairs R ys
AllPairs-permutation R turns xs ys same pairs =
    let start : HoldsApart R xs = λ i j d other at_i at_j. elim (cases_lt i j) [
      | inl before ↦ pairs i j d before at_j
      | inr after ↦ turns _ _ (pairs j i d (omega (arith, after, other)) at_i)
    ] in
    let all = IsPermutation-keeps xs (HoldsApart R) start (λ l a b at_a at_b. HoldsApart-swap R l a b at_a at_b) ys same in
    λ i j d before inside. all i j d (omega (arith, before)) (omega (arith, before, inside)) inside

-- ---- cuts

AreApart-turns : (d e : Stretch) → AreApart d e → AreApart e d
AreApart-turns d e apart same = elim (apart (sym same)) [ inl before ↦ inr before | inr after ↦ inl after ]

differ-turns : (s t : ℕ) → s ≢ t → t ≢ s
differ-turns s t other same = other (sym same)

module _ (q : Dumping) (ds es : List Stretch) (ts us : List ℕ) (stretches : IsPermutation ds es) (counts : IsPermutation ts us) where
  -- the same steps are inner
  same_inner : is_inner q ds ≡ is_inner q es
  same_inner = fun_ext (λ t. list_any-IsPermutation (goes_past q t) ds es stretches)

  same_inner_on : (t : ℕ) → is_inner_on q ds t ≡ is_inner_on q es t
  same_inner_on t = fun_ext (λ c. list_any-IsPermutation (goes_past_on q t c) ds es stretches)

  counted_too : (t : ℕ) → IsCounted q ds t → IsCounted q es t
  counted_too t is = record {
    inner = subst (λ inner. IsTrue (inner t)) same_inner is.inner;
    limited = All-permutation (IsLimited q t) ds es stretches is.limited;
  }

  -- a cut stays one
  pub cut_in_order : IsCut q ds ts → IsCut q es us
  cut_in_order is = record {
    stretches = record {
      each = All-permutation (IsStretch q) ds es stretches is.stretches.each;
      apart = AllPairs-permutation AreApart AreApart-turns ds es stretches is.stretches.apart;
    };
    counted = record {
      each = All-weaker (IsCounted q ds) (IsCounted q es) counted_too us (All-permutation (IsCounted q ds) ts us counts is.counted.each);
      once = AllPairs-permutation ◌≢◌ differ-turns ts us counts is.counted.once;
    };
  }

  -- as much may leave in each step
  same_leaving : leaving q ds ts ≡ leaving q es us
  same_leaving = fun_ext (λ t.
      ap (λ listed. cond listed (limit_sum q ds t) (window q t)) (list_any-IsPermutation (λ k. k == t) ts us counts)
      ∙ ap (λ on. cond (is_listed us t) (sum_by (limit_or_0 q t) (filter on (channels q))) (window q t)) (same_inner_on t))

  same_leaving_sum : leaving_sum q ds ts ≡ leaving_sum q es us
  same_leaving_sum = ap (λ inner. sum_by (leaving q ds ts) (filter inner (steps q))) same_inner ∙ ap (λ f. sum_by f (filter (is_inner q es) (steps q))) same_leaving

  -- its bound stays the same
  pub bound_in_order : bound q es us ≡ bound q ds ts
  bound_in_order =
      ap (λ n. pos n -ℤ pos (sum_by (held q) es + leaving_sum q es us)) (sum_by-IsPermutation (coming q) ds es stretches)
      ∙ ap (λ n. pos (sum_by (coming q) ds) -ℤ pos (n + leaving_sum q es us)) (sum_by-IsPermutation (held q) ds es stretches)
      ∙ ap (λ n. pos (sum_by (coming q) ds) -ℤ pos (sum_by (held q) ds + n)) (sym same_leaving_sum)
