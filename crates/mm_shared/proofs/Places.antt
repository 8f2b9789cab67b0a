-- The index of the one store with an identifier.
use Rattle.mm_shared.proofs.Words.{◌≡◌, ◌⊎◌, inl, inr, ℕ, ◌<◌, ◌≤◌, ◌==◌, Bool, true, false, List, [], length, get_or}
use Rattle.mm_shared.proofs.Words.{Option, Some, None, IfSome, IfNone, bytes_eq, refl, sym, ◌∙◌, arith, cases_order}
use Rattle.mm_shared.proofs.Words.{eq-eqb, ne_eqb, get_or-map, length-map, AreNamed, ids_of, id_at, StoreLabel}
use Rattle.std.specs.List.{position, position_or_len}
use Rattle.std.proofs.lemmas.Bool.Decides.{nat_tests}
use Rattle.std.proofs.lemmas.List.Quantifiers.{position-Some}
use Rattle.std.proofs.lemmas.List.Sums.{fails_before_first}
use Rattle.std.proofs.lemmas.Slice.Eq.{bytes_eq-Decides}

-- no label
no_label : StoreLabel
no_label = record { id = []; channel = 0 }

-- if no element passes the test, the first that does is past all
none_passes : (test : StoreLabel → Bool) (stores : List StoreLabel) → None ≡ position test stores
    → length stores ≤ position_or_len test stores
none_passes test stores none = grind (arith, nat_tests)

module _ (id : List ℕ) (stores : List StoreLabel) (named : AreNamed (ids_of stores)) where
  -- the store at an index has the identifier
  abbrev Has : ℕ → Bool → Type 0
  Has j b = bytes_eq (id_at (ids_of stores) j) id ≡ b

  -- its label has it too
  at : (j : ℕ) (b : Bool) → j < length stores → bytes_eq (get_or stores j no_label).id id ≡ b → Has j b
  at j b within has = rw (get_or-map (λ (s : StoreLabel). s.id) stores j no_label [] within) has

  -- no store after one with the identifier has it
  after : (k j : ℕ) → k < j → j < length stores → Has k true → (b : Bool) → Has j b → b ≡ false
  after k j later within first false has = refl
  after k j later within first true has =
      let its = (bytes_eq-Decides (id_at (ids_of stores) k) id).0 first in
      let same = (bytes_eq-Decides (id_at (ids_of stores) j) id).0 has in
      let both = (bytes_eq-Decides (id_at (ids_of stores) k) (id_at (ids_of stores) j)).1 (its ∙ sym same) in
      let apart : bytes_eq (id_at (ids_of stores) k) (id_at (ids_of stores) j) ≡ false =
      named k j [] later (omega (arith, length-map stores (λ (s : StoreLabel). s.id))) in
      absurd (cc)

  -- the first index that passes is the store's, and where none passes no store has the identifier
  pub place_is : (r : Option ℕ) → r ≡ position (λ s. bytes_eq s.id id) stores
      → IfSome r (λ k. k < length stores) × IfSome r (λ k. (j : ℕ) → j < length stores
      → bytes_eq (id_at (ids_of stores) j) id ≡ (j == k))
      × IfNone r ((j : ℕ) → j < length stores → bytes_eq (id_at (ids_of stores) j) id ≡ false)
  place_is None none =
      let past = none_passes (λ s. bytes_eq s.id id) stores none in (
        tt,
        tt,
        λ j within. at j false within (fails_before_first (λ (s : StoreLabel). bytes_eq s.id id) stores j
            no_label (omega arith)),
      )
  place_is (Some k) found = (is.0, λ j within. by_order j within (cases_order j k), tt)
    where
      is : (k < length stores) × (bytes_eq (get_or stores k no_label).id id ≡ true)
          × ((j : ℕ) → j < k → bytes_eq (get_or stores j no_label).id id ≡ false)
      is = position-Some (λ (s : StoreLabel). bytes_eq s.id id) stores k no_label (sym found)

      by_order : (j : ℕ) → j < length stores → (j ≡ k) ⊎ ((j < k) ⊎ (k < j)) → Has j (j == k)
      by_order j within (inl same) = rw (eq-eqb j k same, same) (at k true is.0 is.1)
      by_order j within (inr (inl earlier)) = rw (ne_eqb j k (λ same. omega arith)) (at j false within (is.2 j earlier))
      by_order j within (inr (inr later)) = rw (ne_eqb j k (λ same. omega arith))
          (after k j later within (at k true is.0 is.1) _ refl)
