use Rattle.std.proofs.Common.{get_or, sym, ◌∙◌, arith}
use Rattle.std.proofs.lemmas.List.{get_or_default}
use Rattle.std.proofs.lemmas.Result.{err_from_is_err_and}
use Rattle.mm_mission_exact.proofs.EachRows.{each_none, each_next, each_fault}
use Rattle.mm_mission_exact.specs.Observations.{and_observation}
use Rattle.mm_mission_exact.proofs.observation.all_observations.Goals as goal

pub returns-in_err-add_observation : goal.returns-in_err-add_observation
returns-in_err-add_observation c =
    let p = err_from_is_err_and c.from_residual.result c.from_residual.ensures.1 in
    rw (p.1, p.2) (λ other. c.loop-one.invariant ∙ each_fault (and_observation c.args.stores.now)
    c.args.arriving.now c.loop-one.one-index c.loop-one.observations.items (get_or c.args.arriving.now
    c.loop-one.one-index _) (omega arith) (get_or_default c.args.arriving.now c.loop-one.one-index _ _ (omega
    arith)) c.in_err-add_observation.field-0.0 (c.in_err-add_observation.ensures other))

pub loop-one-preserved : goal.loop-one-preserved
loop-one-preserved c = c.loop-one.invariant ∙ each_next (and_observation c.args.stores.now) c.args.arriving.now
    c.loop-one.one-index c.loop-one.observations.items (get_or c.args.arriving.now c.loop-one.one-index _)
    (omega arith) (get_or_default c.args.arriving.now c.loop-one.one-index _ _ (omega arith)) _
    c.in_ok-add_observation.ensures

pub returns : goal.returns
returns c = c.loop-one.invariant ∙ each_none (and_observation c.args.stores.now) c.args.arriving.now
    c.loop-one.one-index c.loop-one.observations.items (omega arith)
