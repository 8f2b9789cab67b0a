use Rattle.mm_service.proofs.Words.{arith, ap, ◌∙◌, set}
use Rattle.mm_service.proofs.RequestLemmas.{one_more}
use Rattle.mm_service.proofs.entry_fields.tell_entries.Goals as goal

pub loop-index-preserved : goal.loop-index-preserved
loop-index-preserved g c =
    let l = c.loop-index in
    let e = c.index-entries-index.result in
    ap (set l.out l.index) (c.fields.ensures ∙ ap g.E.ToFields.told c.index-entries-index.is)
    ∙ one_more g.E.ToFields.told c.args.entries.now c.args.out.now l.out l.index e (omega arith) (omega arith)
    l.invariant
