-- What the solver answers is a solution, so the laws of flows and cuts hold of it.
use Rattle.callers.proofs.flow.greatest_value.Goals as goal

pub returns-clause-flows : goal.returns-clause-flows
returns-clause-flows c =
    λ f other flow. (c.solution_is_best.ensures _ _ _ _ _ _ c.in_ok-solved.ensures.solved.solution).greatest f other flow

pub returns-clause-cuts : goal.returns-clause-cuts
returns-clause-cuts c =
    λ side cut. c.value_is_within_each_cut.ensures _ _ _ _ _ _ c.in_ok-solved.ensures.solved.solution.flow cut
