-- The rows of a report type are next to one another: a binary search finds the first, and the others follow it.
use Rattle.std.proofs.Common.{◌≡◌, ◌⊎◌, ℕ, ◌+◌, ◌<◌, ◌≤◌, Bool, true, false, ◌==◌, cond, ltb, not, List, [], ◌∷◌, ◌++◌}
use Rattle.std.proofs.Common.{length, get_or, take, drop, Option, Some, None, refl, sym, ap, ◌∙◌, inl, inr, arith}
use Rattle.std.specs.List.{filter, All, prefix_len, position_or_len}
use Rattle.std.specs.Option.{unwrap_or}
use Rattle.std.specs.List.Sorted.{IsPartitionPoint, IsPartitionedBy}
use Rattle.std.specs.Cmp.{IsTotalOrder, unsigned_tied, Equal-is}
use Rattle.std.specs.Cmp.Lexicographic.{slice_cmp}
use Rattle.std.specs.Ordering.{nat_cmp, ordering_then, is_lt, is_eq, ordering_reverse}
use Rattle.std.specs.declared.cmp.Ordering.{Ordering}
use Rattle.std.specs.declared.cmp.Ordering.TheVariants.{Less, Equal, Greater}
use Rattle.std.proofs.lemmas.Bool.{cases_lt}
use Rattle.std.proofs.lemmas.Bool.Decides.{nat_tests}
use Rattle.std.proofs.lemmas.Cmp.{on_total, then_total, nat_cmp_total}
use Rattle.std.proofs.lemmas.List.{append-nil, take-append-drop, get_or-drop, length-drop}
use Rattle.std.proofs.lemmas.List.Sums.{prefix_len_stops, prefix_len_passes, prefix_len-le-length}
use Rattle.mm_base.specs.declared.rows.RouteRow.{RouteRow}
use Rattle.mm_control.specs.Routes.{row_cmp, IsInOrder, is_for, type_cmp}
use Rattle.mm_control.proofs.OrderLemmas.{is_eq-then, regroup_three}
use Rattle.mm_control.proofs.RouteLemmas.{All-before, All-from, filter_parts, less}

-- the order of rows by report type alone
type_order : RouteRow → RouteRow → Ordering
type_order a b = type_cmp b.apid b.service b.subtype a

-- this order is total
type_order_total : IsTotalOrder type_order
unfolding type_order
type_order_total =
    then_total (on_total (λ (r : RouteRow). r.apid) nat_cmp_total)
    (then_total (on_total (λ (r : RouteRow). r.service) nat_cmp_total)
    (on_total (λ (r : RouteRow). r.subtype) nat_cmp_total))

-- a row that is before another by four keys is before it by the first three, or ties with it
first_of_four : (o p q s : Ordering) → ordering_then o (ordering_then p (ordering_then q s)) ≡ Less
    → (ordering_then o (ordering_then p q) ≡ Less) ⊎ (ordering_then o (ordering_then p q) ≡ Equal)
first_of_four Less p q s before = inl refl
first_of_four Greater p q s before = absurd (cc)
first_of_four Equal Less q s before = inl refl
first_of_four Equal Greater q s before = absurd (cc)
first_of_four Equal Equal Less s before = inl refl
first_of_four Equal Equal Equal s before = inr refl
first_of_four Equal Equal Greater s before = absurd (cc)

-- an order that is neither Less nor Equal is Greater
greater : (o : Ordering) → is_lt o ≡ false → is_eq o ≡ false → o ≡ Greater
greater Less before tied = absurd (cc)
greater Equal before tied = absurd (cc)
greater Greater before tied = refl

module _ {X : Type 0} (p : X → Bool) where
  -- the place of the first element that does not pass is the length of that part
  same_len : (xs : List X) → position_or_len (λ x. not (p x)) xs ≡ prefix_len p xs
  same_len [] = refl
  same_len (x ∷ xs) = by_test (p x) (same_len xs)
    where
      by_test : (b : Bool) → position_or_len (λ x. not (p x)) xs ≡ prefix_len p xs
          → cond (not (not b)) (1 + position_or_len (λ x. not (p x)) xs) 0 ≡ cond b (1 + prefix_len p xs) 0
      by_test true rest = ap (λ n. 1 + n) rest
      by_test false rest = refl

  -- so is that place, or the length of the list if there is none
  pub place_or_length : (xs : List X) (place : Option ℕ)
      → place ≡ cond (ltb (position_or_len (λ x. not (p x)) xs) (length xs))
      (Some (position_or_len (λ x. not (p x)) xs)) None → unwrap_or place (length xs) ≡ prefix_len p xs
  place_or_length xs place is = rw (is, same_len xs) (by_test (ltb (prefix_len p xs) (length xs)) refl)
    where
      by_test : (b : Bool) → ltb (prefix_len p xs) (length xs) ≡ b
          → unwrap_or (cond b (Some (prefix_len p xs)) None) (length xs) ≡ prefix_len p xs
      by_test true h = refl
      by_test false h =
          let within = prefix_len-le-length p xs in
          let past : length xs ≤ prefix_len p xs = grind (arith, nat_tests) in
          omega arith

-- of two rows in order, the first does not have the later report type
not_last : (a b : RouteRow) → row_cmp a b ≡ Less → (type_order a b ≡ Less) ⊎ (type_order a b ≡ Equal)
unfolding type_order
not_last a b before =
    first_of_four (nat_cmp a.apid b.apid) (nat_cmp a.service b.service) (nat_cmp a.subtype b.subtype)
    (slice_cmp nat_cmp a.store b.store) before

module _ (apid service subtype : ℕ) where
  -- the order of a row's report type and this one
  abbrev key : RouteRow → Ordering
  key r = type_cmp apid service subtype r

  -- a row of this report type
  abbrev one : RouteRow
  one = record { apid = apid; service = service; subtype = subtype; store = [] }

  -- a row before a row of an earlier report type has an earlier report type too
  first_back : (a b : RouteRow) → row_cmp a b ≡ Less → key b ≡ Less → key a ≡ Less
  unfolding type_order
  first_back a b before first = elim (not_last a b before) [
    | inl comes ↦ type_order_total.trans a b one comes first
    | inr ties ↦ type_order_total.congr a b one ties ∙ first
  ]

  -- and a row after a row of a later report type has a later one
  last_on : (a b : RouteRow) → row_cmp a b ≡ Less → key a ≡ Greater → key b ≡ Greater
  unfolding type_order
  last_on a b before last = elim (not_last a b before) [
    | inl comes ↦
        let first = type_order_total.antisymm one a ∙ ap ordering_reverse last in
        type_order_total.antisymm b one ∙ ap ordering_reverse (type_order_total.trans one a b first comes)
    | inr ties ↦ sym (type_order_total.congr a b one ties) ∙ last
  ]

  -- the rows of earlier report types are at the front
  pub parted_before : (rows : List RouteRow) → IsInOrder rows
      → IsPartitionedBy (λ r. is_lt (type_cmp apid service subtype r)) rows
  parted_before rows in_order = λ i j d low within holds.
      elim (cases_lt i j) [
        | inl before ↦ ap is_lt (first_back (get_or rows i d) (get_or rows j d) (in_order i j d before within)
            (less _ holds))
        | inr over ↦ (let same : i ≡ j = omega arith in rw same holds)
      ]

  -- a row is for the report type if and only if the order says Equal
  is_for-cmp : (r : RouteRow) → is_for apid service subtype r ≡ is_eq (key r)
  is_for-cmp r =
      let by_subtype = nat_cmp r.subtype subtype in
      let by_service = ordering_then (nat_cmp r.service service) by_subtype in
      let second = is_eq-then (nat_cmp r.service service) by_subtype in
      let first = is_eq-then (nat_cmp r.apid apid) by_service in
      let apids = unsigned_tied r.apid apid in
      let services = unsigned_tied r.service service in
      let subtypes = unsigned_tied r.subtype subtype in
      regroup_three (r.apid == apid) (r.service == service) (r.subtype == subtype) ∙ cc

  module _ (rows rest : List RouteRow) (start : ℕ) (in_order : IsInOrder rows) (rest_is : rest ≡ drop start rows)
      (first : IsPartitionPoint (λ r. is_lt (type_cmp apid service subtype r) ≡ true)
      (λ r. is_lt (type_cmp apid service subtype r) ≡ false) rows start) where
    abbrev test : RouteRow → Bool
    test = is_for apid service subtype

    abbrev len : ℕ
    len = prefix_len test rest

    -- the rows from that row on
    at : (k : ℕ) (d : RouteRow) → get_or rows (start + k) d ≡ get_or rest k d
    at k d = sym (ap (λ xs. get_or xs k d) rest_is ∙ get_or-drop start rows k d)

    within : (k : ℕ) → k < length rest → start + k < length rows
    within k inside = omega (arith, length-drop start rows, ap length rest_is)

    -- the first of them that is not for the report type has a later one
    stop : (d : RouteRow) → len < length rest → key (get_or rest len d) ≡ Greater
    stop d inside =
        greater _ (rw (at len d) at (first.1 (start + len) d (omega arith) (within len inside)))
        (sym (is_for-cmp (get_or rest len d)) ∙ prefix_len_stops test rest d inside)

    late : All (λ r. key r ≡ Greater) (drop len rest)
    late = All-from (λ r. key r ≡ Greater) len rest (λ k d from inside. elim (cases_lt len k) [
      | inl past ↦ last_on (get_or rest len d) (get_or rest k d) (rw (at len d, at k d)
          at (in_order (start + len) (start + k) d (omega arith) (within k inside))) (stop d (omega arith))
      | inr over ↦ (let same : k ≡ len = omega arith in rw same (stop d (omega arith)))
    ])

    -- the rows from the first one on that are for the report type are all of its rows
    pub run_is : take (prefix_len (is_for apid service subtype) rest) rest ≡ filter (is_for apid service subtype) rows
    run_is =
        let whole : rows ≡ take start rows ++ (take len rest ++ drop len rest) =
        sym (take-append-drop start rows)
        ∙ ap (λ x. take start rows ++ x) (sym rest_is ∙ sym (take-append-drop len rest)) in
        sym (ap (filter test) whole
        ∙ filter_parts key test is_eq is_for-cmp (take start rows) (take len rest) (drop len rest)
        (All-before (λ r. key r ≡ Less) start rows (λ k d below inside. less _ (first.0 k d (omega arith) below)))
        (All-before (λ r. key r ≡ Equal) len rest (λ k d below inside.
        (Equal-is _).0 (sym (is_for-cmp (get_or rest k d)) ∙ prefix_len_passes test rest k d below))) late
        ∙ append-nil (take len rest))
