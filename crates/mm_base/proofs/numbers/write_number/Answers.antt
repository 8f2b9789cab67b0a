use Rattle.std.proofs.Common.{◌≡◌, ◌+◌, ◌-◌, arith, rules, ap}
use Rattle.std.specs.Prelude.{◌∷◌}
use Rattle.std.proofs.lemmas.Fmt.{length-decimal-le}
use Rattle.std.proofs.lemmas.List.{drop-set}
use Rattle.mm_base.proofs.numbers.write_number.Goals as goal

pub write_digits-first-requires : goal.write_digits-first-requires
write_digits-first-requires c = (
  omega (
    arith,
    length-decimal-le 10 c.from.result (omega arith) (omega (arith, c.from.ensures))
        (omega (arith, c.from.ensures)),
  ),
  search rules,
)

pub overflow_sub-first : goal.overflow_sub-first
overflow_sub-first c = omega (
  arith,
  length-decimal-le 10 c.from.result (omega arith) (omega (arith, c.from.ensures))
      (omega (arith, c.from.ensures)),
)

pub returns-clause-written : goal.returns-clause-written
returns-clause-written c =
    let w = c.write_digits-first in
    let few = length-decimal-le 10 c.from.result (omega arith) (omega (arith, c.from.ensures))
    (omega (arith, c.from.ensures)) in
    let next : w.result - 1 + 1 ≡ w.result = omega (arith, few) in
    rw (drop-set w.new.buf (w.result - 1) c.args.octet (omega (arith, few)), next)
    (ap (λ xs. c.args.octet ∷ xs) (rw c.from.ensures at w.ensures.written))

pub returns-clause-least : goal.returns-clause-least
returns-clause-least c =
    omega (
      arith,
      length-decimal-le 10 c.from.result (omega arith) (omega (arith, c.from.ensures))
          (omega (arith, c.from.ensures)),
    )
