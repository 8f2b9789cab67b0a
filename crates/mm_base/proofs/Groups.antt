-- Sums by groups: the sum over a list is at most the sum over its groups, and at most the sum over the places of its
-- elements.
use Rattle.std.proofs.Common.{◌≡◌, ℕ, ◌<◌, ◌≤◌, Bool, true, false, cond, eqb, List, get_or, All, refl, inl, inr, arith}
use Rattle.std.specs.Prelude.{◌≢◌, AllPairs}
use Rattle.std.specs.List.{sum_by, range_with_len}
use Rattle.std.proofs.lemmas.Bool.{cases_lt}
use Rattle.std.proofs.lemmas.Bool.Decides.{nat_tests, eqb_tells}
use Rattle.mm_base.proofs.Tests.{cond-eqb_same, true-from_cond}
use Rattle.mm_base.proofs.Sums.{sum_by-le_each, sum_by-swap, sum_by-le_one}
use Rattle.mm_base.proofs.RangeSums.{sum_by_range-le, term-le-sum_by_range}

-- the value of an element of group c is at most its share over all groups
in_its_group : (m c n : ℕ) → (0 < m → c < n) → m ≤ sum_by (λ k. cond (eqb c k) m 0) (range_with_len 0 n)
in_its_group m c n within = elim (cases_lt 0 m) [
  | inl some ↦
      let below : c < n = within some in
      omega (
        arith,
        term-le-sum_by_range (λ k. cond (eqb c k) m 0) 0 n c (omega arith) (omega arith),
        cond-eqb_same c c m refl,
      )
  | inr none ↦ omega arith
]

-- a sum is at most the sum of the sums of the groups, if each element that is not 0 has a group below n
pub sum_by-le_groups : {X : Type 0} (f group : X → ℕ) (n : ℕ) (xs : List X)
    → All (λ x. 0 < f x → group x < n) xs
    → sum_by f xs ≤ sum_by (λ c. sum_by (λ x. cond (eqb (group x) c) (f x) 0) xs) (range_with_len 0 n)
sum_by-le_groups {X} f group n xs within =
    let in_group : X → ℕ → ℕ = λ x c. cond (eqb (group x) c) (f x) 0 in
    let each : All (λ x. f x ≤ sum_by (in_group x) (range_with_len 0 n)) xs =
    λ k d inside. in_its_group (f (get_or xs k d)) (group (get_or xs k d)) n (within k d inside) in
    let in_all = sum_by-le_each f (λ x. sum_by (in_group x) (range_with_len 0 n)) xs each in
    omega (arith, in_all, sum_by-swap in_group xs (range_with_len 0 n))

-- the share at place c of an element whose place is k, where b says whether it passes the test
abbrev counted_at : (ℕ → ℕ) → Bool → ℕ → ℕ → ℕ
counted_at f b k c = cond (eqb k c) (cond b (f k) 0) 0

most_at : (f : ℕ → ℕ) (b : Bool) (k c : ℕ) → counted_at f b k c ≤ f c
most_at f b k c = elim (eqb_tells k c) [
  | inl same ↦ rw (same.0, same.1) (elim b as (λ v. cond v (f c) 0 ≤ f c) [ true ↦ omega arith | false ↦ omega arith ])
  | inr other ↦ rw other.0 (omega arith)
]

one_at : (f : ℕ → ℕ) (a b : Bool) (j k c : ℕ) → (a ≡ true → b ≡ true → j ≢ k) → 0 < counted_at f a j c
    → counted_at f b k c ≡ 0
one_at f true true j k c apart some = let other = apart refl refl in grind (arith, nat_tests)
one_at f true false j k c apart some = grind (arith, nat_tests)
one_at f false b j k c apart some = grind (arith, nat_tests)

-- a sum over elements that pass and have different places below n is at most the sum over all places
pub sum_by-le_places : {X : Type 0} (f : ℕ → ℕ) (p : X → Bool) (place : X → ℕ) (n : ℕ) (xs : List X)
    → All (λ x. p x ≡ true → place x < n) xs
    → AllPairs (λ x y. p x ≡ true → p y ≡ true → place x ≢ place y) xs
    → sum_by (λ x. cond (p x) (f (place x)) 0) xs ≤ sum_by f (range_with_len 0 n)
sum_by-le_places {X} f p place n xs within apart =
    let term : X → ℕ = λ x. cond (p x) (f (place x)) 0 in
    let at : ℕ → X → ℕ = λ c x. counted_at f (p x) (place x) c in
    let groups =
    sum_by-le_groups term place n xs
    (λ k d inside some. within k d inside (true-from_cond (p (get_or xs k d)) (f (place (get_or xs k d))) some)) in
    let at_place : (c : ℕ) → sum_by (at c) xs ≤ f c =
    λ c. sum_by-le_one (at c) (f c) xs (λ k d inside. most_at f (p (get_or xs k d)) (place (get_or xs k d)) c)
    (λ i j d before inside.
    let x : X = get_or xs i d in
    let y : X = get_or xs j d in
    one_at f (p x) (p y) (place x) (place y) c (apart i j d before inside)) in
    omega (arith, groups, sum_by_range-le (λ c. sum_by (at c) xs) f 0 n (λ c _ _. at_place c))
