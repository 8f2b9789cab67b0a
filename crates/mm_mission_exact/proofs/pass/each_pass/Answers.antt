use Rattle.std.proofs.Common.{get_or, sym, ◌∙◌, arith}
use Rattle.std.proofs.lemmas.List.{get_or_default}
use Rattle.std.proofs.lemmas.Result.{err_from_is_err_and}
use Rattle.mm_mission_exact.proofs.EachRows.{each_none, each_next, each_fault}
use Rattle.mm_mission_exact.specs.Passes.{and_pass}
use Rattle.mm_mission_exact.proofs.pass.each_pass.Goals as goal

pub returns-in_err-add_pass : goal.returns-in_err-add_pass
returns-in_err-add_pass c =
    let p = err_from_is_err_and c.from_residual.result c.from_residual.ensures.1 in
    rw (p.1, p.2) (λ other. c.loop-place.invariant ∙ each_fault (and_pass c.args.rows.now c.args.mission.now)
    c.args.rows.now.passes.now c.loop-place.place c.loop-place.passes.items c.pass-item.result (omega arith)
    c.pass-item.is c.in_err-add_pass.field-0.0 (c.in_err-add_pass.ensures other))

pub loop-place-preserved : goal.loop-place-preserved
loop-place-preserved c = c.loop-place.invariant ∙ each_next (and_pass c.args.rows.now c.args.mission.now)
    c.args.rows.now.passes.now c.loop-place.place c.loop-place.passes.items c.pass-item.result (omega arith)
    c.pass-item.is _ c.in_ok-add_pass.ensures

pub returns : goal.returns
returns c = c.loop-place.invariant ∙ each_none (and_pass c.args.rows.now c.args.mission.now)
    c.args.rows.now.passes.now c.loop-place.place c.loop-place.passes.items (omega arith)
