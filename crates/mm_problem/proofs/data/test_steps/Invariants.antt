use Rattle.std.proofs.Common.{◌≡◌, drop}
use Rattle.mm_problem.specs.Data.{steps_fit}
use Rattle.mm_problem.proofs.data.test_steps.Given as goal

abbrev pub invariant-loop-earlier : goal.invariant-loop-earlier
invariant-loop-earlier l = steps_fit l.stores l.earlier (drop l.earlier l.windows) l.left ≡ steps_fit l.stores 0 l.windows l.arrived
