use Rattle.std.proofs.Common.{◌<◌, take, All, sym, subst, arith}
use Rattle.std.proofs.lemmas.List.Elements.{All-push}
use Rattle.mm_plan.specs.declared.stretch.Stretch.{Stretch}
use Rattle.mm_cut.specs.Stretches.{store_of}
use Rattle.mm_cut.proofs.Prefixes.{take_one_more}
use Rattle.mm_cut.proofs.firsts.are_of_first.Goals as goal

pub loop-stretch-preserved : goal.loop-stretch-preserved
loop-stretch-preserved c =
    let i = c.loop-stretch.stretch-index in
    let ds = c.args.stretches.now in
    let d = c.stretch-item.result in
    let is_first = λ (e : Stretch). store_of c.args.problem.now e < c.args.stores in
    subst (All is_first) (sym (take_one_more ds i d d c.loop-stretch-test.true c.stretch-item.is)) (All-push is_first (take i ds) d c.loop-stretch.invariant (omega (arith, c.store_of.ensures.store)))
