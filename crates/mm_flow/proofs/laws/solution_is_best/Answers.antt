use Rattle.mm_flow.proofs.Sides.{solution_best}
use Rattle.mm_flow.proofs.laws.solution_is_best.Goals as goal

pub returns : goal.returns
returns c = solution_best
