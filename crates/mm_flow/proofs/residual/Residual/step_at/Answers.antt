use Rattle.std.proofs.Common.{◌≡◌, sym, subst, arith}
use Rattle.std.proofs.lemmas.List.{get_or_read}
use Rattle.mm_flow.specs.declared.links.Step.{Step}
use Rattle.mm_flow.specs.Links.{no_step, step, IsStep}
use Rattle.mm_flow.proofs.Linking.{end-most}
use Rattle.mm_flow.proofs.residual.Residual.step_at.Goals as goal
use Rattle.mm_flow.proofs.residual.Residual.step_at.Goals.{After-index}

pub index-requires : goal.index-requires
index-requires c =
    let r = c.args.self.now in
    omega (arith, end-most r.network.now.graph c.args.node, r.sound.linked.steps_size, r.links.steps.ok.0)

-- the step that was read
step_is : (c : After-index) → c.index.result.now ≡ step c.args.self.now.links.steps.items c.args.at
step_is c =
    let r = c.args.self.now in
    get_or_read r.links.steps.items c.args.at c.index.result.now
    (omega (arith, end-most r.network.now.graph c.args.node, r.sound.linked.steps_size)) c.index.ensures no_step

pub returns-clause-step : goal.returns-clause-step
returns-clause-step c = step_is (goal.at.returns-clause-step c).After-index

pub returns-clause-own : goal.returns-clause-own
returns-clause-own c =
    let r = c.args.self.now in
    subst (λ (s : Step). IsStep r.network.now.graph c.args.node s)
    (sym (step_is (goal.at.returns-clause-own c).After-index))
    (r.sound.linked.own c.args.node c.args.at c.requires.node c.requires.from c.requires.below)
