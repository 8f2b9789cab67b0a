-- Sums over ranges of numbers: longer ranges, and terms that are equal, larger, zero, or changed at one number.
use Rattle.std.proofs.Common.{◌≡◌, ◌≢◌, ℕ, zero, suc, ◌+◌, ◌-◌, ◌<◌, ◌≤◌, Bool, true, false, cond, refl, ◌∙◌, ap, inl}
use Rattle.std.proofs.Common.{inr, arith, add-one}
use Rattle.std.specs.Prelude.{filter}
use Rattle.std.specs.List.{range_with_len, sum_by}
use Rattle.std.proofs.lemmas.Bool.{cases_eq}
use Rattle.std.proofs.lemmas.List.Sums.{sum_by_push, sum_by-cons}
use Rattle.mm_base.proofs.Ranges.{range_with_len_more, All-range_with_len}
use Rattle.mm_base.proofs.Sums.{sum_by-le_each, sum_by-same, sum_by_zeros, sum_by-filter}

-- the sum over a range with one more number
pub sum_by_range_more : (f : ℕ → ℕ) (a n j : ℕ) → a + n ≡ j
    → sum_by f (range_with_len a (n + 1)) ≡ sum_by f (range_with_len a n) + f j
sum_by_range_more f a n j e =
    ap (λ k. sum_by f (range_with_len a k)) (add-one n) ∙ ap (sum_by f) (range_with_len_more a n j e)
    ∙ sum_by_push f (range_with_len a n) j

-- the sum over the numbers that pass, with one more number
pub sum_by_filter_range_more : (p : ℕ → Bool) (f : ℕ → ℕ) (a n j : ℕ) → a + n ≡ j
    → sum_by f (filter p (range_with_len a (n + 1))) ≡ sum_by f (filter p (range_with_len a n)) + cond (p j) (f j) 0
sum_by_filter_range_more p f a n j e =
    omega (
      arith,
      sum_by-filter f p (range_with_len a (n + 1)),
      sum_by-filter f p (range_with_len a n),
      sum_by_range_more (λ k. cond (p k) (f k) 0) a n j e,
    )

-- the sum over the numbers from 1 to t that pass, as a loop over steps adds it
pub sum_by_filter_range_next : (p : ℕ → Bool) (f : ℕ → ℕ) (t : ℕ) → 1 ≤ t → sum_by f
    (filter p (range_with_len 1 (t + 1 - 1))) ≡ sum_by f (filter p (range_with_len 1 (t - 1))) + cond (p t) (f t) 0
sum_by_filter_range_next p f t first =
    let one_more : t + 1 - 1 ≡ t - 1 + 1 = omega arith in
    rw one_more (sum_by_filter_range_more p f 1 (t - 1) t (omega arith))

-- the sum over a range that begins one number later
pub sum_by_range_shift : (f : ℕ → ℕ) (a n : ℕ)
    → sum_by f (range_with_len (a + 1) n) ≡ sum_by (λ k. f (k + 1)) (range_with_len a n)
sum_by_range_shift f a zero = refl
sum_by_range_shift f a (suc n) =
    omega (
      arith,
      sum_by-cons f (a + 1) (range_with_len (a + 1 + 1) n),
      sum_by-cons (λ k. f (k + 1)) a (range_with_len (a + 1) n),
      sum_by_range_shift f (a + 1) n,
    )

-- a sum of terms that are no larger is no larger
pub sum_by_range-le : (f g : ℕ → ℕ) (a n : ℕ) → ((t : ℕ) → a ≤ t → t < a + n → f t ≤ g t)
    → sum_by f (range_with_len a n) ≤ sum_by g (range_with_len a n)
sum_by_range-le f g a n each = sum_by-le_each f g (range_with_len a n) (All-range_with_len (λ t. f t ≤ g t) a n each)

-- the same over the numbers that pass
pub sum_by_filter_range-le : (p : ℕ → Bool) (f g : ℕ → ℕ) (a n : ℕ) → ((t : ℕ) → a ≤ t → t < a + n → f t ≤ g t)
    → sum_by f (filter p (range_with_len a n)) ≤ sum_by g (filter p (range_with_len a n))
sum_by_filter_range-le p f g a n each =
    let all = sum_by_range-le (λ k. cond (p k) (f k) 0) (λ k. cond (p k) (g k) 0) a n
    (λ k low high. cond_le (p k) (f k) (g k) (each k low high)) in
    omega (arith, all, sum_by-filter f p (range_with_len a n), sum_by-filter g p (range_with_len a n))
  where
    cond_le : (b : Bool) (i j : ℕ) → i ≤ j → cond b i 0 ≤ cond b j 0
    cond_le b i j le = elim b as (λ v. cond v i 0 ≤ cond v j 0) [ true ↦ le | false ↦ omega arith ]

-- sums of equal terms are equal
pub sum_by_range_same : (f g : ℕ → ℕ) (a n : ℕ) → ((t : ℕ) → a ≤ t → t < a + n → f t ≡ g t)
    → sum_by f (range_with_len a n) ≡ sum_by g (range_with_len a n)
sum_by_range_same f g a n same = sum_by-same f g (range_with_len a n) (All-range_with_len (λ t. f t ≡ g t) a n same)

-- a sum of zeros is 0
pub sum_by_range_zeros : (f : ℕ → ℕ) (a n : ℕ) → ((t : ℕ) → a ≤ t → t < a + n → f t ≡ 0)
    → sum_by f (range_with_len a n) ≡ 0
sum_by_range_zeros f a n zeros = sum_by_zeros f (range_with_len a n) (All-range_with_len (λ t. f t ≡ 0) a n zeros)

-- two sums whose terms differ at one number only
pub sum_by_range_changed : (f g : ℕ → ℕ) (a n i : ℕ) → a ≤ i → i < a + n
    → ((t : ℕ) → a ≤ t → t < a + n → t ≢ i → g t ≡ f t)
    → sum_by g (range_with_len a n) + f i ≡ sum_by f (range_with_len a n) + g i
sum_by_range_changed f g a zero i low high same = absurd (omega arith)
sum_by_range_changed f g a (suc n) i low high same =
    let more_f = sum_by-cons f a (range_with_len (a + 1) n) in
    let more_g = sum_by-cons g a (range_with_len (a + 1) n) in
    elim (cases_eq a i) [
      | inl here ↦
          let rest = sum_by_range_same g f (a + 1) n
          (λ t above below. same t (omega arith) (omega arith) (omega arith)) in
          omega (arith, rest, more_f, more_g, ap f here, ap g here)
      | inr later ↦
          let rest = sum_by_range_changed f g (a + 1) n i (omega arith) (omega arith)
          (λ t above below. same t (omega arith) (omega arith)) in
          omega (arith, rest, more_f, more_g, same a (omega arith) (omega arith) later)
    ]

-- the same over the numbers that pass
pub sum_by_filter_range_changed : (p : ℕ → Bool) (f g : ℕ → ℕ) (a n i : ℕ) → a ≤ i → i < a + n
    → ((t : ℕ) → a ≤ t → t < a + n → t ≢ i → g t ≡ f t) → sum_by g (filter p (range_with_len a n)) + cond (p i) (f i) 0
    ≡ sum_by f (filter p (range_with_len a n)) + cond (p i) (g i) 0
sum_by_filter_range_changed p f g a n i low high same =
    let all = sum_by_range_changed (λ k. cond (p k) (f k) 0) (λ k. cond (p k) (g k) 0) a n i low high
    (λ k from to other. ap (λ m. cond (p k) m 0) (same k from to other)) in
    omega (arith, all, sum_by-filter f p (range_with_len a n), sum_by-filter g p (range_with_len a n))

-- a sum whose terms are 0 outside one number is the term at that number
pub sum_by_range_one : (f : ℕ → ℕ) (a n i : ℕ) → a ≤ i → i < a + n → ((t : ℕ) → a ≤ t → t < a + n → t ≢ i → f t ≡ 0)
    → sum_by f (range_with_len a n) ≡ f i
sum_by_range_one f a n i low high none =
    omega (arith, sum_by_range_changed (λ _. 0) f a n i low high none, sum_by_range_zeros (λ _. 0) a n (λ t _ _. refl))

-- each term is at most the sum
pub term-le-sum_by_range : (f : ℕ → ℕ) (a n i : ℕ) → a ≤ i → i < a + n → f i ≤ sum_by f (range_with_len a n)
term-le-sum_by_range f a zero i low high = absurd (omega arith)
term-le-sum_by_range f a (suc n) i low high =
    let first = sum_by-cons f a (range_with_len (a + 1) n) in
    elim (cases_eq a i) [
      | inl here ↦ omega (arith, first, ap f here)
      | inr later ↦ omega (arith, first, term-le-sum_by_range f (a + 1) n i (omega arith) (omega arith))
    ]
