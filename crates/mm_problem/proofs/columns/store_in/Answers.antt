use Rattle.std.proofs.Common.{refl}
use Rattle.mm_problem.specs.Forecast.{store_in}
use Rattle.mm_problem.proofs.columns.store_in.Goals as goal

pub returns-in-None : goal.returns-in-None
unfolding store_in
returns-in-None c = λ other. rw (c.in_ok-text.ensures, ← c.in-None.ensures) refl
