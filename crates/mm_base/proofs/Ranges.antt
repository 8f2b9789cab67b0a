-- Ranges of numbers: longer ranges, facts of each number and of each two numbers, and filters of ranges.
use Rattle.std.proofs.Common.{◌≡◌, ℕ, zero, suc, ◌+◌, ◌-◌, ◌<◌, ◌≤◌, Bool, true, false, cond, eqb, List, [], ◌∷◌, ◌++◌}
use Rattle.std.proofs.Common.{get_or, All, refl, sym, ap, ◌∙◌, subst, inl, inr, arith}
use Rattle.std.specs.Prelude.{AllPairs, filter}
use Rattle.std.specs.List.{range_with_len, flat_map, list_any}
use Rattle.std.proofs.lemmas.Bool.{cases_Bool, cases_eq, eq-eqb, ne_eqb, or_from, or_left, or_right, both_ways}
use Rattle.std.proofs.lemmas.List.Elements.{All-nil, All-cons, All-append, All-from_get_or, filter-append}
use Rattle.std.proofs.lemmas.List.FromFn.{length-range_with_len, get_or-range_with_len}
use Rattle.std.proofs.lemmas.List.Kept.{AllPairs-cons}
use Rattle.mm_base.proofs.Pairs.{AllPairs-append}

-- a range with one more number
pub range_with_len_more : (a n j : ℕ) → a + n ≡ j → range_with_len a (suc n) ≡ range_with_len a n ++ j ∷ []
range_with_len_more a zero j e = let same : a ≡ j = omega arith in ap (λ x. x ∷ []) same
range_with_len_more a (suc n) j e = ap (λ xs. a ∷ xs) (range_with_len_more (a + 1) n j (omega arith))

-- the numbers from 1 to t, as a loop over steps adds the last of them
pub range_with_len_next : (t : ℕ) → 1 ≤ t → range_with_len 1 (t + 1 - 1) ≡ range_with_len 1 (t - 1) ++ t ∷ []
range_with_len_next t first =
    let last : t + 1 - 1 ≡ suc (t - 1) = omega arith in
    ap (range_with_len 1) last ∙ range_with_len_more 1 (t - 1) t (omega arith)

-- the numbers from 1 to t that pass, as a loop over steps adds the last of them
pub filter-range_with_len_next : (p : ℕ → Bool) (t : ℕ) → 1 ≤ t
    → filter p (range_with_len 1 (t + 1 - 1)) ≡ filter p (range_with_len 1 (t - 1)) ++ cond (p t) (t ∷ []) []
filter-range_with_len_next p t first = ap (filter p) (range_with_len_next t first)
    ∙ filter-append p (range_with_len 1 (t - 1)) (t ∷ [])

-- a fact of each number from a to a + n - 1 holds of each element of the range
pub All-range_with_len : (P : ℕ → Type 0) (a n : ℕ) → ((t : ℕ) → a ≤ t → t < a + n → P t) → All P (range_with_len a n)
All-range_with_len P a n each =
    All-from_get_or P (range_with_len a n) 0
    (λ i within.
    let below : i < n = omega (arith, length-range_with_len a n) in
    subst P (sym (get_or-range_with_len a n i 0 below)) (each (a + i) (omega arith) (omega arith)))

-- a fact of each number that passes holds of each element of the filtered range
pub All-filter-range_with_len : (P : ℕ → Type 0) (p : ℕ → Bool) (a n : ℕ)
    → ((t : ℕ) → a ≤ t → t < a + n → p t ≡ true → P t) → All P (filter p (range_with_len a n))
All-filter-range_with_len P p a zero each = All-nil P
All-filter-range_with_len P p a (suc n) each =
    let rest = All-filter-range_with_len P p (a + 1) n (λ t low high. each t (omega arith) (omega arith)) in
    elim (cases_Bool (p a)) [
      | inl passes ↦ rw passes
          (All-cons P a (filter p (range_with_len (a + 1) n)) (each a (omega arith) (omega arith) passes) rest)
      | inr fails ↦ rw fails rest
    ]

-- a fact of each element of each list `make s` holds of each element of the joined lists
pub All-flat_map-range_with_len : {X : Type 0} (P : X → Type 0) (make : ℕ → List X) (a n : ℕ)
    → ((s : ℕ) → a ≤ s → s < a + n → All P (make s)) → All P (flat_map make (range_with_len a n))
All-flat_map-range_with_len P make a zero each = All-nil P
All-flat_map-range_with_len P make a (suc n) each =
    All-append P (make a) (flat_map make (range_with_len (a + 1) n)) (each a (omega arith) (omega arith))
    (All-flat_map-range_with_len P make (a + 1) n (λ s low high. each s (omega arith) (omega arith)))

-- a fact of each two numbers that pass holds of each two elements of the filtered range
pub AllPairs-filter-range_with_len : (R : ℕ → ℕ → Type 0) (p : ℕ → Bool) (a n : ℕ)
    → ((t u : ℕ) → a ≤ t → t < u → u < a + n → p t ≡ true → p u ≡ true → R t u)
    → AllPairs R (filter p (range_with_len a n))
AllPairs-filter-range_with_len R p a zero each = λ i j d before within. absurd (omega arith)
AllPairs-filter-range_with_len R p a (suc n) each =
    let rest = AllPairs-filter-range_with_len R p (a + 1) n
    (λ t u low before high. each t u (omega arith) before (omega arith)) in
    elim (cases_Bool (p a)) [
      | inl passes ↦
          rw passes (AllPairs-cons R a (filter p (range_with_len (a + 1) n))
          (All-filter-range_with_len (R a) p (a + 1) n (λ u low high at.
          each a u (omega arith) (omega arith) (omega arith) passes at)) rest)
      | inr fails ↦ rw fails rest
    ]

-- a fact of each two elements of one list, and of two lists, holds of each two elements of the joined lists
pub AllPairs-flat_map-range_with_len : {X : Type 0} (R : X → X → Type 0) (make : ℕ → List X) (a n : ℕ)
    → ((s : ℕ) → a ≤ s → s < a + n → AllPairs R (make s))
    → ((s r : ℕ) → a ≤ s → s < r → r < a + n → All (λ x. All (R x) (make r)) (make s))
    → AllPairs R (flat_map make (range_with_len a n))
AllPairs-flat_map-range_with_len R make a zero each across = λ i j d before within. absurd (omega arith)
AllPairs-flat_map-range_with_len R make a (suc n) each across =
    AllPairs-append R (make a) (flat_map make (range_with_len (a + 1) n)) (each a (omega arith) (omega arith))
    (AllPairs-flat_map-range_with_len R make (a + 1) n (λ s low high. each s (omega arith) (omega arith))
    (λ s r low before high. across s r (omega arith) before (omega arith)))
    (λ k d within. All-flat_map-range_with_len (R (get_or (make a) k d)) make (a + 1) n
    (λ r low high. across a r (omega arith) (omega arith) (omega arith) k d within))

-- a number of a range that passes is in the filtered range
pub is_listed-filter : (p : ℕ → Bool) (t a n : ℕ) → a ≤ t → t < a + n → p t ≡ true
    → list_any (λ k. eqb k t) (filter p (range_with_len a n)) ≡ true
is_listed-filter p t a zero low high passes = absurd (omega arith)
is_listed-filter p t a (suc n) low high passes = elim (cases_eq a t) [
  | inl here ↦
      let at : p a ≡ true = ap p here ∙ passes in
      rw at (or_left (eqb a t) (list_any (λ k. eqb k t) (filter p (range_with_len (a + 1) n))) (eq-eqb a t here))
  | inr later ↦
      let rest = is_listed-filter p t (a + 1) n (omega arith) (omega arith) passes in
      elim (cases_Bool (p a)) [
        | inl at ↦ rw at (or_right (eqb a t) (list_any (λ k. eqb k t) (filter p (range_with_len (a + 1) n))) rest)
        | inr fails ↦ rw fails rest
      ]
]

-- a number that does not pass is not in a filtered list
pub not_listed-filter : (p : ℕ → Bool) (t : ℕ) (ts : List ℕ) → p t ≡ false
    → list_any (λ k. eqb k t) (filter p ts) ≡ false
not_listed-filter p t [] fails = refl
not_listed-filter p t (a ∷ ts) fails =
    let rest = not_listed-filter p t ts fails in
    elim (cases_Bool (p a)) [
      | inl at ↦ rw at (or_from (eqb a t) (list_any (λ k. eqb k t) (filter p ts))
          (ne_eqb a t (λ same. both_ways (p t) fails (sym (ap p same) ∙ at))) rest)
      | inr off ↦ rw off rest
    ]
