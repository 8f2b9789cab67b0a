use Rattle.std.proofs.Common.{◌≡◌, ◌*◌, ◌/◌, ◌≤◌, rules, arith, refl}
use Rattle.std.proofs.Math.Nat.{pos_of_dvd_of_pos}
use Rattle.mm_overlap.proofs.Multiples.{least_is, none_least}
use Rattle.mm_overlap.proofs.rates.common.Goals as goal
use Rattle.mm_overlap.proofs.rates.common.Goals.{else-multiple-ge1-via-then-multiple-ge1+else-multiple-from}
use Rattle.mm_overlap.proofs.rates.common.Goals.{else-multiple-ge1-via-else-multiple-ge1}

pub nonzero_div-first : goal.nonzero_div-first
nonzero_div-first c = pos_of_dvd_of_pos c.divisor.ensures.0 c.requires

pub returns-then-multiple-from : goal.returns-then-multiple-from
returns-then-multiple-from c =
    let multiple : c.from.result * c.from-2.result ≡ c.args.first / c.divisor.result * c.args.second =
    rw (c.from.ensures, c.from-2.ensures) refl in
    least_is c.args.first c.args.second c.divisor.result _ c.divisor.ensures multiple c.requires
    c.if-multiple-ge1.true (omega (arith, c.if-multiple-from.true, c.from-then-multiple-ge1.ensures))

pub returns-else-multiple-ge1 : goal.returns-else-multiple-ge1
returns-else-multiple-ge1 c =
    let multiple : c.from.result * c.from-2.result ≡ c.args.first / c.divisor.result * c.args.second =
    rw (c.from.ensures, c.from-2.ensures) refl in
    none_least c.args.first c.args.second c.divisor.result _ c.divisor.ensures multiple c.requires
    (λ some. elim c.else-multiple-ge1.branch [
      | else-multiple-ge1-via-then-multiple-ge1+else-multiple-from w ↦
          omega (arith, w.if-multiple-from.false, w.from-then-multiple-ge1.ensures)
      | else-multiple-ge1-via-else-multiple-ge1 w ↦ absurd (omega (arith, some, w.if-multiple-ge1.false))
    ])
