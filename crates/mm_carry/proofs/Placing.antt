-- The stores of the problem at their places in the memory.
use Rattle.mm_carry.proofs.Words.{cases_order, get_or-map, get_or-take, length-take-le, All-from_get_or}
use Rattle.mm_carry.proofs.Words.{passes_at_first, bytes_eq-Decides, position_or_len, slice_index, Dumping, row, no_row}
use Rattle.mm_carry.proofs.Words.{blank, Held, id_at, has_id, IsPlaceOf, ArePlaces, AreAllPlaces, StandWithin, ◌≡◌, ◌≢◌}
use Rattle.mm_carry.proofs.Words.{inl, inr, ℕ, ◌<◌, List, [], length, map, take, get_or, sym, subst, ap, ◌∙◌, arith}
use Rattle.mm_problem.specs.Setup.{AreStores}

-- no store
abbrev pub no_held : Held
no_held = record { id = []; channel = 0; state = blank }

-- the store at the place has the identifier
pub id_there : (id : List ℕ) (stores : List Held) (place : ℕ) → IsPlaceOf id stores place
    → id_at (map (λ h. h.id) stores) place ≡ id
id_there id stores place is =
    let within : position_or_len (has_id id) stores < length stores = rw (← is.is) is.within in
    get_or-map (λ (h : Held). h.id) stores place no_held [] is.within
    ∙ ap (λ (k : ℕ). (get_or stores k no_held).id) is.is
    ∙ (bytes_eq-Decides _ id).0 (passes_at_first (has_id id) stores no_held within)

-- stores with identifiers of their own stand at places of their own
pub places_differ : (q : Dumping) (stores : List Held) (places : List ℕ) → AreStores q.rows
    → ArePlaces q stores (length q.rows) places
    → (r s : ℕ) → r < length q.rows → s < length q.rows → r ≢ s → slice_index places r ≢ slice_index places s
places_differ q stores places are place_in_memory r s first second other same =
    let one = id_there (row q r).id stores (slice_index places r) (place_in_memory r first) in
    let two = id_there (row q s).id stores (slice_index places s) (place_in_memory s second) in
    let ids : (row q r).id ≡ (row q s).id = sym one ∙ ap (λ (k : ℕ). id_at (map (λ h. h.id) stores) k) same ∙ two in
    elim (cases_order r s) [
      | inl equal ↦ other equal
      | inr (inl before) ↦ are.named r s no_row before second ids
      | inr (inr after) ↦ are.named s r no_row after first (sym ids)
    ]

-- places that are cut down to those of the problem's stores
module _ (q : Dumping) (stores : List Held) (all : List ℕ) (n : ℕ) (are : AreAllPlaces q stores all)
    (cut : n ≡ length q.rows) where
  pub places_cut : ArePlaces q stores (length q.rows) (take n all)
  places_cut s within = subst (IsPlaceOf (row q s).id stores) (sym (get_or-take n all s 0 (omega (arith, within, cut))))
      (are.stand s within)

  pub stand_cut : (now : List Held) → length now ≡ length stores → StandWithin (length q.rows) now (take n all)
  stand_cut now many =
      let as_many : length (take n all) ≡ length q.rows =
      length-take-le n all (omega (arith, cut, are.count, are.sound.stores.at_most)) ∙ cut in
      record {
        all = as_many;
        few = omega (arith, as_many, are.sound.stores.at_most);
        within = All-from_get_or (λ (place : ℕ). place < length now) (take n all) 0
            (λ s inside. rw many (places_cut s (omega (arith, inside, as_many))).within);
      }
