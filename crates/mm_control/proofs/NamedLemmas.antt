-- The stores of a report type, from rows in order.
use Rattle.std.proofs.Common.{◌≡◌, ℕ, true, false, List, [], ◌∷◌, refl, sym, ap, ◌∙◌, inl, inr, arith}
use Rattle.std.specs.List.{filter, All}
use Rattle.std.specs.Prelude.{bytes_eq, if◌then◌else◌}
use Rattle.std.specs.Cmp.Lexicographic.{slice_cmp}
use Rattle.std.specs.Ordering.{nat_cmp, ordering_reverse}
use Rattle.std.specs.declared.cmp.Ordering.TheVariants.{Less, Greater}
use Rattle.std.proofs.lemmas.Bool.{and_parts, cases_Bool}
use Rattle.std.proofs.lemmas.Bool.Decides.{Decides-eqb, same_from_decides}
use Rattle.std.proofs.lemmas.Cmp.{tied_itself, nat_cmp_total}
use Rattle.std.proofs.lemmas.List.Elements.{All-cons, All-head, All-tail, All-weaker}
use Rattle.std.proofs.lemmas.List.Folds.{list_any_none}
use Rattle.std.proofs.lemmas.List.Kept.{AllPairs-cons}
use Rattle.std.proofs.lemmas.Slice.Eq.{bytes_eq-Decides}
use Rattle.mm_base.specs.declared.rows.RouteRow.{RouteRow}
use Rattle.mm_base.specs.SameRoutes.{same_route}
use Rattle.mm_control.specs.Routes.{row_cmp, IsInOrder, AreInOrder, has_row, is_for, stores_for}
use Rattle.mm_control.proofs.OrderLemmas.{row_cmp_total, beside, same_route-true}
use Rattle.mm_base.proofs.Pairs.{AllPairs-head, AllPairs-tail}

-- a row that is before all of these rows is not among them
not_later : (r row : RouteRow) (rows : List RouteRow) → same_route r row ≡ true → All (λ x. row_cmp r x ≡ Less) rows
    → has_row row rows ≡ false
not_later r row rows same later =
    list_any_none (λ x. same_route x row) rows
    (All-weaker (λ x. row_cmp r x ≡ Less) (λ x. same_route x row ≡ false) other rows later)
  where
    other : (x : RouteRow) → row_cmp r x ≡ Less → same_route x row ≡ false
    other x before =
        let after : row_cmp x r ≡ Greater = row_cmp_total.antisymm x r ∙ ap ordering_reverse before in
        rw (same_route-true r row same) at (beside x r Greater after).same

module _ (apid service subtype : ℕ) where
  -- the fields of a row that is for this report type
  fields : (r : RouteRow) → is_for apid service subtype r ≡ true
      → (r.apid ≡ apid) × (r.service ≡ service) × (r.subtype ≡ subtype)
  fields r is =
      let (both, third) = and_parts _ _ is in
      let (first, second) = and_parts _ _ both in (
        (Decides-eqb r.apid apid).0 first,
        (Decides-eqb r.service service).0 second,
        (Decides-eqb r.subtype subtype).0 third,
      )

  -- rows of one report type are in the order of their stores
  by_store : (a b : RouteRow) → is_for apid service subtype a ≡ true → is_for apid service subtype b ≡ true
      → row_cmp a b ≡ Less → slice_cmp nat_cmp a.store b.store ≡ Less
  by_store a b a_is b_is before =
      let (a_apid, a_service, a_subtype) = fields a a_is in
      let (b_apid, b_service, b_subtype) = fields b b_is in
      rw (
        a_apid,
        a_service,
        a_subtype,
        b_apid,
        b_service,
        b_subtype,
        tied_itself nat_cmp_total apid,
        tied_itself nat_cmp_total service,
        tied_itself nat_cmp_total subtype,
      ) at before

  -- the stores of later rows have later identifiers
  later_stores : (r : RouteRow) (rows : List RouteRow) → is_for apid service subtype r ≡ true
      → All (λ x. row_cmp r x ≡ Less) rows
      → All (λ id. slice_cmp nat_cmp r.store id ≡ Less) (stores_for apid service subtype rows)
  later_stores r [] is later = λ k d within. absurd (omega arith)
  later_stores r (x ∷ xs) is later =
      let rest = later_stores r xs is (All-tail (λ y. row_cmp r y ≡ Less) x xs later) in
      let here = All-head (λ y. row_cmp r y ≡ Less) x xs later in
      elim (cases_Bool (is_for apid service subtype x)) [
        | inl named ↦ rw named (All-cons (λ id. slice_cmp nat_cmp r.store id ≡ Less) x.store
            (stores_for apid service subtype xs) (by_store r x is named here) rest)
        | inr other ↦ rw other rest
      ]

  -- the stores of the report type are in the order of their identifiers
  pub named_in_order : (rows : List RouteRow) → IsInOrder rows → AreInOrder (stores_for apid service subtype rows)
  named_in_order [] in_order = λ i j d less within. absurd (omega arith)
  named_in_order (r ∷ rs) in_order =
      let rest = named_in_order rs (AllPairs-tail (λ a b. row_cmp a b ≡ Less) r rs in_order) in
      elim (cases_Bool (is_for apid service subtype r)) [
        | inl named ↦ rw named
            (AllPairs-cons (λ a b. slice_cmp nat_cmp a b ≡ Less) r.store (stores_for apid service subtype rs)
            (later_stores r rs named (AllPairs-head (λ a b. row_cmp a b ≡ Less) r rs in_order)) rest)
        | inr other ↦ rw other rest
      ]

  -- the row of this report type for a store
  abbrev row_to : List ℕ → RouteRow
  row_to id = record { apid = apid; service = service; subtype = subtype; store = id }

  -- the test of equal identifiers is symmetric
  bytes_eq-sym : (a b : List ℕ) → bytes_eq a b ≡ bytes_eq b a
  bytes_eq-sym a b =
      let back = bytes_eq-Decides b a in
      same_from_decides (bytes_eq a b) (bytes_eq b a) (bytes_eq-Decides a b)
      (λ same. sym (back.0 same), λ same. back.1 (sym same))

  -- a store is among them once if the rows have its row, and not if they do not
  pub named_once : (id : List ℕ) (rows : List RouteRow) → IsInOrder rows
      → filter (bytes_eq id) (stores_for apid service subtype rows) ≡ (if has_row (row_to id) rows then id ∷ [] else [])
  named_once id [] in_order = refl
  named_once id (r ∷ rs) in_order =
      let rest = named_once id rs (AllPairs-tail (λ a b. row_cmp a b ≡ Less) r rs in_order) in
      let later = AllPairs-head (λ a b. row_cmp a b ≡ Less) r rs in_order in
      let flip = bytes_eq-sym id r.store in
      elim (cases_Bool (is_for apid service subtype r)) [
        | inr other ↦ rw other rest
        | inl named ↦ elim (cases_Bool (bytes_eq r.store id)) [
          | inr other ↦ rw (named, flip, other) rest
          | inl same ↦
              let is : same_route r (row_to id) ≡ true = rw (named, same) refl in
              let none = rw (not_later r (row_to id) rs is later) at rest in
              let store = (bytes_eq-Decides r.store id).0 same in
              rw (named, flip, same) (rw store (ap (λ ids. id ∷ ids) none))
        ]
      ]
