use Rattle.mm_record.proofs.Words.{length-map, step_of}
use Rattle.mm_record.proofs.Adding.{offer_refused}
use Rattle.mm_record.proofs.offering.offer_at.Goals as goal

pub returns : goal.returns
returns g c =
    let refused = offer_refused (step_of c.args.context.now) c.args.port.now c.args.index c.args.packet c.in-Err.back
    (simp length-map c.requires.within) in
    record { offers = rw c.in-Err.ensures.called refused }
