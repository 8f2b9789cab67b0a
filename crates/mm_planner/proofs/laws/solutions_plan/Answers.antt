use Rattle.mm_planner.proofs.Optimality.{solutions_plan}
use Rattle.mm_planner.proofs.laws.solutions_plan.Goals as goal

pub returns : goal.returns
returns c = solutions_plan c.cuts_bound_losses.ensures
