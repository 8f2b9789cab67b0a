-- Additions to rows in order, and deletions from them.
use Rattle.std.proofs.Common.{◌≡◌, ℕ, suc, ◌+◌, ◌<◌, ◌≤◌, Bool, true, false, not, ◌&&◌, ◌||◌, List, [], ◌∷◌, ◌++◌}
use Rattle.std.proofs.Common.{length, get_or, take, drop, cond, refl, sym, ap, ◌∙◌, inl, inr, add-one, arith}
use Rattle.std.specs.List.{filter, All, HoldsAt}
use Rattle.std.specs.Prelude.{Result, Ok, Err, is_ok, IfOk, IfErr}
use Rattle.std.specs.List.Sorted.{IsPartitionPoint, IsNonDecreasingBy, IsSearchInRange, IsBinarySearchResult}
use Rattle.std.proofs.lemmas.List.Sorted.{searchable_from_sorted}
use Rattle.std.specs.Ordering.{is_lt, is_eq, is_gt, ordering_reverse, ordering_index}
use Rattle.std.specs.declared.cmp.Ordering.{Ordering}
use Rattle.std.specs.declared.cmp.Ordering.TheVariants.{Less, Equal, Greater}
use Rattle.std.proofs.Math.Bool.{or-false}
use Rattle.std.proofs.lemmas.List.{append-nil, take-append-drop, get_or-take, get_or-drop, length-take, length-drop}
use Rattle.std.proofs.lemmas.List.{drop_more}
use Rattle.std.proofs.lemmas.Cmp.{tied_itself}
use Rattle.std.proofs.lemmas.Bool.{cases_lt, cond_both}
use Rattle.std.proofs.lemmas.List.Elements.{All-cons, All-head, All-nil, All-tail, All-weaker, filter-append}
use Rattle.std.proofs.lemmas.List.Elements.{filter_passes}
use Rattle.std.proofs.lemmas.List.Folds.{list_any-append, list_any_at, list_any_none}
use Rattle.std.proofs.lemmas.List.Kept.{AllPairs-cons, AllPairs-filter}
use Rattle.std.proofs.lemmas.Map.Views.{any-filter_same}
use Rattle.mm_base.proofs.Pairs.{AllPairs-append}
use Rattle.mm_base.specs.declared.rows.RouteRow.{RouteRow}
use Rattle.mm_base.specs.SameRoutes.{same_route}
use Rattle.mm_control.specs.Routes.{row_cmp, is_before, IsInOrder, has_row, with_row, without_row, Stands, WouldStand}
use Rattle.mm_control.specs.Laws.{AddsOne, DeletesOne}
use Rattle.mm_control.proofs.OrderLemmas.{row_cmp_total, row_cmp_same, beside, same_route-sym, same_route-true}

-- filtered rows have a row if and only if the row passes and the rows have it
has_row-filter : (p : RouteRow → Bool) (r : RouteRow) (rows : List RouteRow)
    → has_row r (filter p rows) ≡ (p r && has_row r rows)
has_row-filter p r rows = any-filter_same (λ x. same_route x r) p (p r) (λ x same. ap p (same_route-true x r same)) rows

has_row-with_row : (row : RouteRow) (rows : List RouteRow) (r : RouteRow)
    → has_row r (with_row row rows) ≡ (same_route row r || has_row r rows)
has_row-with_row row rows r =
    list_any-append (λ x. same_route x r) (filter (λ x. is_before x row) rows)
    (row ∷ filter (λ x. is_before row x) rows)
    ∙ rw (
      has_row-filter (λ x. is_before x row) r rows,
      has_row-filter (λ x. is_before row x) r rows,
      same_route-sym row r,
    ) (by_order (row_cmp r row) refl (has_row r rows))
  where
    by_order : (o : Ordering) → row_cmp r row ≡ o → (h : Bool)
        → ((is_before r row && h) || (same_route r row || (is_before row r && h))) ≡ (same_route r row || h)
    by_order Less e h = let b = beside r row Less e in rw (b.before, b.after, b.same) (or-false h)
    by_order Equal e h = let b = beside r row Equal e in rw (b.before, b.after, b.same)
    by_order Greater e h = let b = beside r row Greater e in rw (b.before, b.after, b.same)

has_row-without_row : (row : RouteRow) (rows : List RouteRow) (r : RouteRow)
    → has_row r (without_row row rows) ≡ (not (same_route row r) && has_row r rows)
has_row-without_row row rows r =
    rw (same_route-sym row r) (has_row-filter (λ x. not (same_route x row)) r rows)

-- an order that passes the test is_lt is Less
pub less : (o : Ordering) → is_lt o ≡ true → o ≡ Less
less Less test = refl
less Equal test = absurd (cc)
less Greater test = absurd (cc)

-- row a is before row b
abbrev Precedes : RouteRow → RouteRow → Type 0
Precedes a b = row_cmp a b ≡ Less

pub IsInOrder-with_row : (row : RouteRow) (rows : List RouteRow) → IsInOrder rows → IsInOrder (with_row row rows)
IsInOrder-with_row row rows in_order =
    AllPairs-append Precedes front (row ∷ back) (AllPairs-filter Precedes (λ r. is_before r row) rows in_order)
    (AllPairs-cons Precedes row back late (AllPairs-filter Precedes (λ r. is_before row r) rows in_order))
    (All-weaker (λ x. Precedes x row) (λ x. All (Precedes x) (row ∷ back)) before_all front early)
  where
    front : List RouteRow
    front = filter (λ r. is_before r row) rows

    back : List RouteRow
    back = filter (λ r. is_before row r) rows

    early : All (λ x. Precedes x row) front
    early = All-weaker (λ x. is_before x row ≡ true) (λ x. Precedes x row) (λ x. less (row_cmp x row)) front
        (filter_passes (λ r. is_before r row) rows)

    late : All (Precedes row) back
    late = All-weaker (λ x. is_before row x ≡ true) (Precedes row) (λ x. less (row_cmp row x)) back
        (filter_passes (λ r. is_before row r) rows)

    before_all : (x : RouteRow) → Precedes x row → All (Precedes x) (row ∷ back)
    before_all x first =
        All-cons (Precedes x) row back first
        (All-weaker (Precedes row) (Precedes x) (λ y second. row_cmp_total.trans x row y first second) back late)

pub adds_one : (row : RouteRow) (rows : List RouteRow) → IsInOrder rows → AddsOne row rows
adds_one row rows in_order = record { has = has_row-with_row row rows; in_order = IsInOrder-with_row row rows in_order }

pub deletes_one : (row : RouteRow) (rows : List RouteRow) → IsInOrder rows → DeletesOne row rows
deletes_one row rows in_order =
    record {
      has = has_row-without_row row rows;
      in_order =
          AllPairs-filter (λ a b. row_cmp a b ≡ Less) (λ r. not (same_route r row)) rows in_order;
    }

module _ {X : Type 0} (P : X → Type 0) (n : ℕ) (xs : List X) where
  -- what holds of each element before a place, or from it on, holds of that part of the list
  pub All-before : ((k : ℕ) (d : X) → k < n → k < length xs → P (get_or xs k d)) → All P (take n xs)
  All-before each k d inside =
      let below : k < n = omega (arith, length-take n xs) in
      rw (get_or-take n xs k d below) (each k d below (omega (arith, length-take n xs)))

  pub All-from : ((k : ℕ) (d : X) → n ≤ k → k < length xs → P (get_or xs k d)) → All P (drop n xs)
  All-from each k d inside =
      rw (get_or-drop n xs k d) (each (n + k) d (omega arith) (omega (arith, length-drop n xs)))

-- a filter whose test is one of an order
module _ {X : Type 0} (order : X → Ordering) (p : X → Bool) (test : Ordering → Bool)
    (by_order : (x : X) → p x ≡ test (order x)) where
  -- of elements of one order all pass, or none
  filter_alike : (o : Ordering) (xs : List X) → All (λ x. order x ≡ o) xs → filter p xs ≡ cond (test o) xs []
  filter_alike o [] all = cond_both (test o) [] [] (λ ys. [] ≡ ys) (λ yes. refl) (λ no. refl)
  filter_alike o (x ∷ xs) all =
      let here = by_order x ∙ ap test (All-head (λ x. order x ≡ o) x xs all) in
      let rest = filter_alike o xs (All-tail (λ x. order x ≡ o) x xs all) in
      rw (here, rest) (cond_both (test o) (x ∷ cond (test o) xs []) (cond (test o) xs [])
      (λ ys. ys ≡ cond (test o) (x ∷ xs) []) (λ yes. rw yes refl) (λ no. rw no refl))

  -- of a list whose elements are first Less, then Equal, and then Greater, each part is kept or left out
  pub filter_parts : (front tied back : List X) → All (λ x. order x ≡ Less) front → All (λ x. order x ≡ Equal) tied
      → All (λ x. order x ≡ Greater) back → filter p (front ++ (tied ++ back))
      ≡ cond (test Less) front [] ++ (cond (test Equal) tied [] ++ cond (test Greater) back [])
  filter_parts front tied back early ties late =
      filter-append p front (tied ++ back) ∙ ap (λ ys. filter p front ++ ys) (filter-append p tied back)
      ∙ (λ i. filter_alike Less front early i ++ (filter_alike Equal tied ties i ++ filter_alike Greater back late i))

-- the table in three parts: the rows before a row, those that tie with it, and those after it
module _ (row : RouteRow) (front tied back : List RouteRow) (early : All (λ r. row_cmp r row ≡ Less) front)
    (ties : All (λ r. row_cmp r row ≡ Equal) tied) (late : All (λ r. row_cmp r row ≡ Greater) back) where
  -- the row stands between the first part and the last
  with_row-parts : with_row row (front ++ (tied ++ back)) ≡ front ++ row ∷ back
  with_row-parts =
      let order = λ (r : RouteRow). row_cmp r row in
      let before = filter_parts order (λ r. is_before r row) is_lt (λ r. refl) front tied back early ties late
      ∙ append-nil front in
      let after = filter_parts order (λ r. is_before row r) is_gt (λ r. (beside r row (row_cmp r row) refl).after) front
      tied back early ties late in
      λ i. before i ++ row ∷ after i

  -- a deletion leaves those two parts
  without_row-parts : without_row row (front ++ (tied ++ back)) ≡ front ++ back
  without_row-parts =
      filter_parts (λ r. row_cmp r row) (λ r. not (same_route r row)) (λ o. not (is_eq o))
      (λ r. ap not (beside r row (row_cmp r row) refl).same) front tied back early ties late

module _ (row : RouteRow) (rows : List RouteRow) (place : ℕ) where
  -- a row that the table does not have is inserted at the place
  pub gap : place ≤ length rows → IsPartitionPoint (λ r. row_cmp r row ≡ Less) (λ r. row_cmp r row ≡ Greater) rows place
      → WouldStand row rows place × (has_row row rows ≡ false)
  gap within parts = (
    record {
      within = within;
      with = ap (with_row row) (sym (take-append-drop place rows))
          ∙ with_row-parts row (take place rows) [] (drop place rows)
          (All-before (λ r. row_cmp r row ≡ Less) place rows (λ k d below inside. parts.0 k d (omega arith) below))
          (All-nil _) (All-from (λ r. row_cmp r row ≡ Greater) place rows parts.1);
    },
    list_any_none (λ r. same_route r row) rows (λ k d inside. elim (cases_lt k place) [
      | inl below ↦ (beside (get_or rows k d) row Less (parts.0 k d (omega arith) below)).same
      | inr from ↦ (beside (get_or rows k d) row Greater (parts.1 k d from inside)).same
    ]),
  )

  -- a row that the table has stays where it is, and a deletion removes it
  pub hit : IsInOrder rows → place < length rows → HoldsAt (λ r. row_cmp r row ≡ Equal) rows place
      → Stands row rows place × (has_row row rows ≡ true)
  hit in_order within ties = (
    record {
      within = within;
      with = ap (with_row row) whole ∙ with_row-parts row (take place rows) (row ∷ []) (drop (suc place) rows) early
          itself late ∙ sym whole;
      without = ap (without_row row) whole
          ∙ without_row-parts row (take place rows) (row ∷ []) (drop (suc place) rows) early itself late;
    },
    list_any_at (λ r. same_route r row) rows place row within
        (rw (at row) (beside row row Equal (tied_itself row_cmp_total row)).same),
  )
    where
      at : (d : RouteRow) → get_or rows place d ≡ row
      at d = row_cmp_same (get_or rows place d) row (ties d)

      whole : rows ≡ take place rows ++ row ∷ drop (suc place) rows
      whole =
          sym (take-append-drop place rows)
          ∙ ap (λ rest. take place rows ++ rest) (drop_more rows place row within ∙ rw (at row, add-one place))

      itself : All (λ r. row_cmp r row ≡ Equal) (row ∷ [])
      itself =
          let ties_with = λ (r : RouteRow). row_cmp r row ≡ Equal in
          All-cons ties_with row [] (tied_itself row_cmp_total row) (All-nil ties_with)

      early : All (λ r. row_cmp r row ≡ Less) (take place rows)
      early = All-before (λ r. row_cmp r row ≡ Less) place rows
          (λ k d below inside. rw (at d) at (in_order k place d below within))

      late : All (λ r. row_cmp r row ≡ Greater) (drop (suc place) rows)
      late = All-from (λ r. row_cmp r row ≡ Greater) (suc place) rows
          (λ k d from inside. row_cmp_total.antisymm (get_or rows k d) row
          ∙ ap ordering_reverse (rw (at d) at (in_order place k d (omega arith) inside)))

-- rows in order can be searched for a row
searchable : (row : RouteRow) (rows : List RouteRow) → IsInOrder rows
    → IsNonDecreasingBy (λ r. ordering_index (row_cmp r row)) rows
searchable row rows in_order =
    searchable_from_sorted row_cmp_total (λ (r : RouteRow). r) rows row
    (λ k d low next. rw (
      row_cmp_total.antisymm (get_or rows (k + 1) d) (get_or rows k d),
      in_order k (k + 1) d (omega arith) next,
    ))

-- the result of a binary search of rows in order
pub searched : (row : RouteRow) (rows : List RouteRow) (r : Result ℕ ℕ) → IsInOrder rows
    → IsSearchInRange r (length rows) → IsBinarySearchResult (λ y. row_cmp y row) rows r
    → (is_ok r ≡ has_row row rows) × IfOk r (Stands row rows) × IfErr r (WouldStand row rows)
searched row rows (Ok place) in_order within result =
    let found = hit row rows place in_order within result in
    (sym found.1, found.0, tt)
searched row rows (Err place) in_order within result =
    let missed = gap row rows place within (result (searchable row rows in_order)) in
    (sym missed.1, tt, missed.0)
