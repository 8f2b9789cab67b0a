use Rattle.std.proofs.Common.{arith}
use Rattle.std.proofs.lemmas.Nat.Gcd.{IsGcd-from_zero, IsGcd-from_mod, same_from_IsGcd}
use Rattle.mm_utc.proofs.FractionLemmas.{gcd_is, some_divisor}
use Rattle.mm_mission_exact.proofs.rate.divisor.Goals as goal

pub steps-preserved : goal.steps-preserved
steps-preserved c g h = c.steps.invariant g (IsGcd-from_mod _ _ g h)

pub returns-clause-value : goal.returns-clause-value
returns-clause-value c =
    same_from_IsGcd c.args.a c.args.b _ _ (c.steps.invariant _ (IsGcd-from_zero _ _ (omega arith)))
    (gcd_is c.args.a c.args.b)

pub returns-clause-some : goal.returns-clause-some
returns-clause-some c = λ above_zero. some_divisor c.args.a c.args.b _ above_zero
    (c.steps.invariant _ (IsGcd-from_zero _ _ (omega arith)))
