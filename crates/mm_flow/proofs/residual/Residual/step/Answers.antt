use Rattle.std.proofs.Common.{◌∙◌, ◌-◌, ap}
use Rattle.mm_flow.specs.Links.{step}
use Rattle.mm_flow.proofs.residual.Residual.step.Goals as goal

pub returns-clause-step : goal.returns-clause-step
returns-clause-step c =
    c.step_at.ensures.step ∙ ap (λ n. step c.args.self.now.links.steps.items (n - c.args.left)) c.end-end.ensures
