use Rattle.std.proofs.Common.{◌∙◌, ap, length, subst, sym}
use Rattle.mm_base.proofs.ReadingSteps.{ok_same}
use Rattle.mm_problem.specs.Dumping.{IsDumping}
use Rattle.mm_plan.specs.Table.{amount}
use Rattle.mm_rest.proofs.RestReads.{as_many_held, rest_is}
use Rattle.mm_rest.proofs.rest.rest_from.Goals as goal

pub rest-requires-clause-as_many : goal.rest-requires-clause-as_many
rest-requires-clause-as_many c =
    ap length c.requires.held ∙ as_many_held c.args.problem.now (amount c.args.plan.now) c.args.step

pub unreachable-requires : goal.unreachable-requires
unreachable-requires c =
    let is = rest_is c.args.problem.now (amount c.args.plan.now) c.args.step c.args.held.now c.requires.first
    c.stores-stores.ensures.is_dumping c.requires.held in
    let refused = c.in-Err.ensures.rest c.in_default.not-NoMemory in
    cc (sym is ∙ refused)

pub returns-in-Ok-clause-rest : goal.returns-in-Ok-clause-rest
returns-in-Ok-clause-rest c =
    let is = rest_is c.args.problem.now (amount c.args.plan.now) c.args.step c.args.held.now c.requires.first
    c.stores-stores.ensures.is_dumping c.requires.held in
    ok_same _ _ (sym c.in-Ok.ensures.rest ∙ is)

pub returns-in-Ok-clause-within : goal.returns-in-Ok-clause-within
returns-in-Ok-clause-within c =
    let is = rest_is c.args.problem.now (amount c.args.plan.now) c.args.step c.args.held.now c.requires.first
    c.stores-stores.ensures.is_dumping c.requires.held in
    subst IsDumping (ok_same _ _ (sym c.in-Ok.ensures.rest ∙ is)) c.steps-steps.ensures.is_dumping
