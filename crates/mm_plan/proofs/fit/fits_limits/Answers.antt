use Rattle.std.proofs.Common.{refl, arith}
use Rattle.mm_problem.proofs.Limits.{limit_is_within}
use Rattle.mm_plan.proofs.fit.fits_limits.Goals as goal

pub returns : goal.returns
returns c = ((λ _ k b e. c.loop-channel.invariant k (omega (arith, limit_is_within c.args.problem.now k c.args.step b e)) b e), (λ _. refl))
