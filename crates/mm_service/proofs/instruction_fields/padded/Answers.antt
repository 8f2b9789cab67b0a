use Rattle.mm_service.proofs.Words.{ap, ◌∙◌, arith, set, spaced}
use Rattle.mm_service.proofs.RequestLemmas.{one_more}
use Rattle.mm_service.proofs.instruction_fields.padded.Goals as goal

pub loop-index-preserved : goal.loop-index-preserved
loop-index-preserved c =
    let l = c.loop-index in
    ap (set l.field l.index) c.spaced.ensures
    ∙ one_more spaced c.args.id c.args.id l.field l.index 0 (omega arith) (omega arith) l.invariant
