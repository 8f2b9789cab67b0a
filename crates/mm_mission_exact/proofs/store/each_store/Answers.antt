use Rattle.std.proofs.Common.{get_or, sym, ◌∙◌, arith}
use Rattle.std.proofs.lemmas.List.{get_or_default}
use Rattle.std.proofs.lemmas.Result.{err_from_is_err_and}
use Rattle.mm_mission_exact.proofs.EachRows.{each_none, each_next, each_fault}
use Rattle.mm_mission_exact.specs.Stores.{and_store}
use Rattle.mm_mission_exact.proofs.store.each_store.Goals as goal

pub returns-in_err-add_store : goal.returns-in_err-add_store
returns-in_err-add_store c =
    let p = err_from_is_err_and c.from_residual.result c.from_residual.ensures.1 in
    rw (p.1, p.2) (λ other. c.loop-place.invariant ∙ each_fault (and_store c.args.whole.now c.args.octets)
    c.args.rows.now c.loop-place.place c.loop-place.stores.items c.index-rows-place.result (omega arith)
    c.index-rows-place.is c.in_err-add_store.field-0.0 (c.in_err-add_store.ensures other))

pub loop-place-preserved : goal.loop-place-preserved
loop-place-preserved c = c.loop-place.invariant ∙ each_next (and_store c.args.whole.now c.args.octets)
    c.args.rows.now c.loop-place.place c.loop-place.stores.items c.index-rows-place.result (omega arith)
    c.index-rows-place.is _ c.in_ok-add_store.ensures

pub returns : goal.returns
returns c = c.loop-place.invariant ∙ each_none (and_store c.args.whole.now c.args.octets) c.args.rows.now
    c.loop-place.place c.loop-place.stores.items (omega arith)
