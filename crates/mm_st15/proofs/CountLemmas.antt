-- A count and its entries are found again.
use Rattle.std.proofs.Common.{◌≡◌, ℕ, ◌*◌, ◌≤◌, true, false, List, ◌∷◌, length, drop, Some, refl, ◌∙◌, ◌≢◌, arith, eq-eqb}
use Rattle.std.specs.Prelude.{◌==◌, nat_lt}
use Rattle.std.specs.Int.{w16}
use Rattle.std.proofs.lemmas.Bool.Decides.{nat_tests}
use Rattle.mm_base.specs.NumberFields.{number_at}
use Rattle.mm_st15.specs.declared.report_kind.ReportKind.TheVariants as kind
use Rattle.mm_st15.specs.Counted.{counted_at}
use Rattle.mm_st15.specs.Report.{is_counted}

-- the count is found again
pub counted_again : (least width count : ℕ) (octets : List ℕ) → least ≤ count → length octets ≡ count * width → counted_at least width (count ∷ octets) ≡ Some (count, octets)
counted_again least width count octets enough len =
    let not_fewer : nat_lt count least ≡ false = grind (arith, nat_tests) in
    let as_many : (length octets == count * width) ≡ true = eq-eqb (length octets) (count * width) len in
    rw (not_fewer, as_many) refl

-- the rows after an identifier are as many as their count says, or are not
pub rows_counted : (octets rest : List ℕ) (count : ℕ) (after : List ℕ) → 8 ≤ length octets → rest ≡ drop 8 octets → number_at w16 rest ≡ Some (count, after) → is_counted kind.Control octets ≡ (length after == count * 4)
rows_counted octets rest count after long rest-is found =
    let not_short : nat_lt (length octets) 8 ≡ false = grind (arith, nat_tests) in
    rw (not_short, ← rest-is, found) refl

-- a test of two numbers that differ
not_same : (a b : ℕ) → a ≢ b → (a == b) ≡ false
not_same a b differ = grind (arith, nat_tests)

-- as many rows as their count says
pub are_counted : (octets rest : List ℕ) (count : ℕ) (after : List ℕ) → 8 ≤ length octets → rest ≡ drop 8 octets → number_at w16 rest ≡ Some (count, after) → length after ≡ count * 4 → is_counted kind.Control octets ≡ true
are_counted octets rest count after long rest-is found len = rows_counted octets rest count after long rest-is found ∙ eq-eqb (length after) (count * 4) len

-- another number of octets than the count says
pub are_not_counted : (octets rest : List ℕ) (count : ℕ) (after : List ℕ) → 8 ≤ length octets → rest ≡ drop 8 octets → number_at w16 rest ≡ Some (count, after) → length after ≢ count * 4 → is_counted kind.Control octets ≡ false
are_not_counted octets rest count after long rest-is found differ = rows_counted octets rest count after long rest-is found ∙ not_same (length after) (count * 4) differ
