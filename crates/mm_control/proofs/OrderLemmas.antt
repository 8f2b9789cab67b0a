-- The order of rows is total, and rows that tie are equal.
use Rattle.std.proofs.Common.{◌≡◌, Bool, true, false, ◌&&◌, refl, sym, ap, ◌∙◌}
use Rattle.std.specs.Prelude.{◌==◌, bytes_eq}
use Rattle.std.specs.Cmp.{IsTotalOrder, unsigned_tied, Equal-is}
use Rattle.std.specs.Cmp.Lexicographic.{slice_cmp}
use Rattle.std.specs.FinMap.{nat_cmp-IsAntisymmetric, slice_cmp-IsAntisymmetric}
use Rattle.std.specs.Ordering.{nat_cmp, ordering_then, ordering_reverse, is_lt, is_eq, is_gt}
use Rattle.std.specs.declared.cmp.Ordering.{Ordering}
use Rattle.std.specs.declared.cmp.Ordering.TheVariants.{Less, Equal, Greater}
use Rattle.std.proofs.lemmas.Cmp.{on_total, then_total, nat_cmp_total, nat_list_cmp_total}
use Rattle.std.proofs.lemmas.Map.Text.{is_eq-slice_cmp}
use Rattle.mm_base.specs.declared.rows.RouteRow.{RouteRow}
use Rattle.mm_base.specs.SameRoutes.{same_route}
use Rattle.mm_control.specs.Routes.{row_cmp, is_before}

-- the order of rows is total
pub row_cmp_total : IsTotalOrder row_cmp
row_cmp_total =
    then_total (on_total (λ (r : RouteRow). r.apid) nat_cmp_total)
    (then_total (on_total (λ (r : RouteRow). r.service) nat_cmp_total)
    (then_total (on_total (λ (r : RouteRow). r.subtype) nat_cmp_total)
    (on_total (λ (r : RouteRow). r.store) nat_list_cmp_total)))

-- if two orders combined say Equal, both do
then_ties : (o p : Ordering) → ordering_then o p ≡ Equal → (o ≡ Equal) × (p ≡ Equal)
then_ties Less p tie = absurd (cc)
then_ties Equal p tie = (refl, tie)
then_ties Greater p tie = absurd (cc)

-- rows with equal fields are equal
same_fields : (a b : RouteRow) → a.apid ≡ b.apid → a.service ≡ b.service → a.subtype ≡ b.subtype → a.store ≡ b.store
    → a ≡ b
same_fields a b apid service subtype store =
    λ i. record { apid = apid i; service = service i; subtype = subtype i; store = store i }

-- rows that tie are equal
pub row_cmp_same : (a b : RouteRow) → row_cmp a b ≡ Equal → a ≡ b
row_cmp_same a b tie =
    let first = then_ties _ _ tie in
    let second = then_ties _ _ first.1 in
    let third = then_ties _ _ second.1 in
    same_fields a b
    (nat_cmp-IsAntisymmetric a.apid b.apid first.0)
    (nat_cmp-IsAntisymmetric a.service b.service second.0)
    (nat_cmp-IsAntisymmetric a.subtype b.subtype third.0)
    (slice_cmp-IsAntisymmetric nat_cmp-IsAntisymmetric a.store b.store third.1)

-- two orders combined say Equal if and only if both do
pub is_eq-then : (o p : Ordering) → is_eq (ordering_then o p) ≡ (is_eq o && is_eq p)
is_eq-then Less p = refl
is_eq-then Equal p = refl
is_eq-then Greater p = refl

-- three tests, grouped from the left and from the right
pub regroup_three : (b c d : Bool) → (b && c && d) ≡ (b && (c && d))
regroup_three true c d = refl
regroup_three false c d = refl

regroup : (a b c d : Bool) → (a && b && c && d) ≡ (a && (b && (c && d)))
regroup true b c d = regroup_three b c d
regroup false b c d = refl

-- the test of equal rows is the test for a tie
pub same_route-cmp : (a b : RouteRow) → same_route a b ≡ is_eq (row_cmp a b)
same_route-cmp a b =
    let by_store = slice_cmp nat_cmp a.store b.store in
    let by_subtype = ordering_then (nat_cmp a.subtype b.subtype) by_store in
    let by_service = ordering_then (nat_cmp a.service b.service) by_subtype in
    let last = ap (λ t. is_eq (nat_cmp a.subtype b.subtype) && t) (is_eq-slice_cmp a.store b.store) in
    let third = is_eq-then (nat_cmp a.subtype b.subtype) by_store in
    let second = is_eq-then (nat_cmp a.service b.service) by_subtype in
    let first = is_eq-then (nat_cmp a.apid b.apid) by_service in
    let apid = unsigned_tied a.apid b.apid in
    let service = unsigned_tied a.service b.service in
    let subtype = unsigned_tied a.subtype b.subtype in
    regroup (a.apid == b.apid) (a.service == b.service) (a.subtype == b.subtype) (bytes_eq a.store b.store) ∙ cc

-- the tests of two rows, by the order of the rows
pub record IsBeside (r row : RouteRow) (order : Ordering) : Type 0 where
  pub before : is_before r row ≡ is_lt order
  pub after : is_before row r ≡ is_gt order
  pub same : same_route r row ≡ is_eq order

is_lt-reverse : (o : Ordering) → is_lt (ordering_reverse o) ≡ is_gt o
is_lt-reverse Less = refl
is_lt-reverse Equal = refl
is_lt-reverse Greater = refl

pub beside : (r row : RouteRow) (o : Ordering) → row_cmp r row ≡ o → IsBeside r row o
beside r row o e = record {
  before = ap is_lt e;
  after = ap is_lt (row_cmp_total.antisymm row r ∙ ap ordering_reverse e) ∙ is_lt-reverse o;
  same = same_route-cmp r row ∙ ap is_eq e;
}

-- the test of equal rows is symmetric
pub same_route-sym : (a b : RouteRow) → same_route a b ≡ same_route b a
same_route-sym a b =
    same_route-cmp a b ∙ ap is_eq (row_cmp_total.antisymm a b) ∙ is_eq-reverse (row_cmp b a) ∙ sym (same_route-cmp b a)
  where
    is_eq-reverse : (o : Ordering) → is_eq (ordering_reverse o) ≡ is_eq o
    is_eq-reverse Less = refl
    is_eq-reverse Equal = refl
    is_eq-reverse Greater = refl

-- rows that pass the test of equal rows are equal
pub same_route-true : (a b : RouteRow) → same_route a b ≡ true → a ≡ b
same_route-true a b same = row_cmp_same a b ((Equal-is (row_cmp a b)).0 (sym (same_route-cmp a b) ∙ same))
