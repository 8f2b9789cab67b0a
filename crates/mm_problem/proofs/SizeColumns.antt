-- The columns of a forecast that have sizes of stores.
use Rattle.std.proofs.Common.{◌≡◌, ℕ, ◌<◌, nat_le, Bool, true, false, List, ◌++◌, length, get_or, map, take}
use Rattle.std.proofs.Common.{drop}
use Rattle.std.proofs.Common.{Some, Ok, refl, sym, ap, subst, ◌∙◌, arith, inl, inr}
use Rattle.std.specs.Prelude.{All, AllPairs, codes, bytes_eq, position}
use Rattle.std.specs.List.{position_or_len}
use Rattle.std.specs.Option.{ok_or}
use Rattle.std.proofs.lemmas.Bool.{cases_Bool}
use Rattle.std.proofs.lemmas.Bool.Decides.{Decides-ltb}
use Rattle.std.proofs.lemmas.Slice.Eq.{bytes_eq-Decides}
use Rattle.std.proofs.lemmas.List.{length-map, take-append-drop}
use Rattle.std.proofs.lemmas.List.Quantifiers.{position-Some}
use Rattle.std.proofs.lemmas.List.Sums.{position_or_len_is}
use Rattle.mm_base.specs.declared.rows.StoreRow.{StoreRow}
use Rattle.mm_base.specs.Id.{id_text, field_of}
use Rattle.mm_base.proofs.IdFields.{Decides-nat_le}
use Rattle.mm_base.proofs.ReadingSteps.{bind_ok, test_ok, ok_or_ok, ok_same}
use Rattle.mm_problem.specs.declared.fault.Fault.TheVariants.{Header}
use Rattle.mm_problem.specs.Dumping.{no_row}
use Rattle.mm_problem.specs.Forecast.{sized_text, store_in, next_sized, sized_in}
use Rattle.mm_problem.specs.ReadableForecast.{size_text}
use Rattle.mm_problem.specs.Records.{Fields}
use Rattle.mm_problem.specs.Setup.{HasId, HaveOtherIds}
use Rattle.mm_problem.proofs.ColumnLaws.{below_decides}
use Rattle.mm_problem.proofs.NamedColumns.{Says, IsBelow, AreRising, AreNamesOf, columns_said, columns_read}
use Rattle.mm_problem.proofs.RowLaws.{IsNext}

-- the first place that passes
position_is : {X : Type 0} (p : X → Bool) (xs : List X) (i : ℕ) → position_or_len p xs ≡ i → i < length xs
    → position p xs ≡ Some i
position_is p xs i at within = rw (at, (Decides-ltb i (length xs)).1 within) refl

-- a text that was read follows `size:`
text_said : (name text : List ℕ) → sized_text name ≡ Ok text → name ≡ codes "size:" ++ text
unfolding sized_text
text_said name text h =
    let (u, word, last) = bind_ok _ _ _ h in
    let front : take 5 name ≡ codes "size:" =
    (bytes_eq-Decides (take 5 name) (codes "size:")).0 (test_ok _ _ _ word) in
    let same : drop 5 name ≡ text = ok_same _ _ last in
    sym (take-append-drop 5 name) ∙ ap (λ w. w ++ drop 5 name) front ∙ ap (λ t. codes "size:" ++ t) same

module _ (stores : List StoreRow) where
  -- a name that was read is that of the store's column
  store_said : (name : List ℕ) (s : ℕ) → store_in stores name ≡ Ok s
      → (name ≡ size_text stores s) × (s < length stores)
  unfolding store_in
  store_said name s h =
      let (text, is, at) = bind_ok _ _ _ h in
      let (within, passes, before) = position-Some (λ (r : StoreRow). bytes_eq (id_text r.id) text) stores s
      no_row (ok_or_ok _ _ _ at) in
      let back : id_text (get_or stores s no_row).id ≡ text =
      (bytes_eq-Decides (id_text (get_or stores s no_row).id) text).0 passes in
      (text_said name text is ∙ ap (λ t. codes "size:" ++ t) (sym back), within)

  -- a store that is read next is above those before it
  next_said : (earlier : List ℕ) (name : List ℕ) (s : ℕ) → next_sized stores earlier name ≡ Ok s
      → IsNext (Says (size_text stores)) (IsBelow (length stores)) ◌<◌ earlier name s
  unfolding next_sized
  next_said earlier name s h =
      let (k, is, h1) = bind_ok _ _ _ h in
      let (u, above, last) = bind_ok _ _ _ h1 in
      let named = store_said name k is in
      subst (IsNext (Says (size_text stores)) (IsBelow (length stores)) ◌<◌ earlier name) (ok_same k s last)
      (record { says = named.0; fits = named.1; new = (below_decides k earlier).0 (test_ok _ _ _ above) })

  -- names that are read as stores are those of their columns
  pub sized_said : (names : Fields) (sized : List ℕ) → sized_in stores names ≡ Ok sized
      → AreNamesOf (size_text stores) (length stores) names sized
  unfolding sized_in
  sized_said names sized h =
      let (u, few, places) = bind_ok _ _ _ h in
      columns_said (size_text stores) (length stores) (next_sized stores) next_said names sized
      ((Decides-nat_le (length names) (length stores)).0 (test_ok _ _ _ few)) places

  module _ (ids : All HasId stores) (named : AllPairs HaveOtherIds stores) where
    -- stores with the same text have the same identifier
    same_id : (i j : ℕ) → i < length stores → j < length stores
        → id_text (get_or stores i no_row).id ≡ id_text (get_or stores j no_row).id
        → (get_or stores i no_row).id ≡ (get_or stores j no_row).id
    same_id i j first second same =
        (ids i no_row first).padded ∙ ap field_of same ∙ sym (ids j no_row second).padded

    -- no store before one has its text
    other_text : (k s : ℕ) → k < s → s < length stores
        → bytes_eq (id_text (get_or stores k no_row).id) (id_text (get_or stores s no_row).id) ≡ false
    other_text k s below within =
        elim (cases_Bool (bytes_eq (id_text (get_or stores k no_row).id) (id_text (get_or stores s no_row).id))) [
          | inl same ↦ absurd (named k s no_row below within (same_id k s (omega arith) within
              ((bytes_eq-Decides (id_text (get_or stores k no_row).id) (id_text (get_or stores s no_row).id)).0 same)))
          | inr other ↦ other
        ]

    -- the name of a store's column is read as the store
    store_read : (s : ℕ) → s < length stores → store_in stores (size_text stores s) ≡ Ok s
    unfolding store_in sized_text
    store_read s within =
        let text = id_text (get_or stores s no_row).id in
        let at : position_or_len (λ (r : StoreRow). bytes_eq (id_text r.id) text) stores ≡ s =
        position_or_len_is (λ (r : StoreRow). bytes_eq (id_text r.id) text) stores s no_row (omega arith)
        (λ k below. other_text k s below within) (λ _. (bytes_eq-Decides text text).1 refl) in
        ap (λ o. ok_or o Header) (position_is (λ (r : StoreRow). bytes_eq (id_text r.id) text) stores s at within)

    -- the name of a store above those before it is read as the store
    next_read : (earlier : List ℕ) (name : List ℕ) (s : ℕ)
        → IsNext (Says (size_text stores)) (IsBelow (length stores)) ◌<◌ earlier name s
        → next_sized stores earlier name ≡ Ok s
    unfolding next_sized
    next_read earlier name s h = rw (h.says, store_read s h.fits, (below_decides s earlier).1 h.new) refl

    -- the names of stores that rise are read as the stores
    pub sized_read : (sized : List ℕ) → AreRising (length stores) sized
        → sized_in stores (map (size_text stores) sized) ≡ Ok sized
    unfolding sized_in
    sized_read sized are =
        let few : nat_le (length (map (size_text stores) sized)) (length stores) ≡ true =
        (Decides-nat_le (length (map (size_text stores) sized)) (length stores)).1
        (omega (arith, are.at_most, length-map sized (size_text stores))) in
        rw few (columns_read (size_text stores) (length stores) (next_sized stores) next_read sized are)
