-- Lists read by `get_elem?`, beside those of `atomic_table`.
use Rattle.mm_shared.proofs.Words.{◌≡◌, ◌≢◌, ◌⊎◌, inl, inr, ⊎_elim, ℕ, zero, suc, ◌<◌, ◌≤◌, List, [], ◌∷◌, ◌++◌, length}
use Rattle.mm_shared.proofs.Words.{get_or, map, set, refl, sym, ap, subst, arith, All-head, All-tail, Each, some}
use Rattle.mm_shared.proofs.Words.{some-injective, some-ne-none, get_elem?, at_set}
use Rattle.std.proofs.Common.{All}

module _ {A : Type 0} where
  -- what is at a place is read there
  pub at_get : (l : List A) (i : ℕ) (a d : A) → get_elem? l i ≡ some a → get_or l i d ≡ a
  at_get [] i a d at = absurd (some-ne-none a (sym at))
  at_get (x ∷ xs) zero a d at = some-injective x a at
  at_get (x ∷ xs) (suc i) a d at = at_get xs i a d at

  -- a place where something is is within the list
  pub at_below : (l : List A) (i : ℕ) (a : A) → get_elem? l i ≡ some a → i < length l
  at_below [] i a at = absurd (some-ne-none a (sym at))
  at_below (x ∷ xs) zero a at = omega arith
  at_below (x ∷ xs) (suc i) a at = let within = at_below xs i a at in omega arith

  -- what is in a list with one more at its end, and where
  pub at_end : (l : List A) (a b : A) (j : ℕ) → get_elem? (l ++ a ∷ []) j ≡ some b
      → (get_elem? l j ≡ some b) ⊎ ((j ≡ length l) × (a ≡ b))
  at_end [] a b zero at = inr (refl, some-injective a b at)
  at_end [] a b (suc j) at = absurd (some-ne-none b (sym at))
  at_end (x ∷ xs) a b zero at = inl at
  at_end (x ∷ xs) a b (suc j) at = ⊎_elim (λ here. inl here) (λ last. inr (ap suc last.0, last.1)) (at_end xs a b j at)

-- the second list is the first elements of the other
pub record AreFirst {A : Type 0} (all left : List A) : Type 0 where
  pub within : length left ≤ length all
  pub same : (i : ℕ) (d : A) → i < length left → get_or left i d ≡ get_or all i d

module _ {A : Type 0} (P : ℕ → A → Type 0) where
  -- what each element has after one was written
  pub each_set : (l : List A) (i : ℕ) (a : A) → P i a → ((j : ℕ) (b : A) → j ≢ i → get_elem? l j ≡ some b → P j b)
      → Each P (set l i a)
  each_set l i a here there j b at =
      ⊎_elim (λ mine. subst (λ (n : ℕ). P n b) (sym mine.0) (subst (P i) mine.1 here))
      (λ other. there j b other.0 other.1) (at_set l i j a b at)

  -- or one more was put at the end
  pub each_push : (l : List A) (a : A) → Each P l → P (length l) a → Each P (l ++ a ∷ [])
  each_push l a all last j b at =
      ⊎_elim (λ early. all j b early) (λ late. subst (λ (n : ℕ). P n b) (sym late.0) (subst (P (length l)) late.1 last))
      (at_end l a b j at)

-- two functions that agree on each element of a list give the same list
pub map_same : {X Y : Type 0} (f g : X → Y) (xs : List X) → All (λ x. f x ≡ g x) xs → map f xs ≡ map g xs
map_same f g [] same = refl
map_same f g (x ∷ xs) same =
    let here = All-head (λ x. f x ≡ g x) x xs same in
    let rest = map_same f g xs (All-tail (λ x. f x ≡ g x) x xs same) in
    λ i. here i ∷ rest i
