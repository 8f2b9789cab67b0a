use Rattle.mm_st15.specs.Request.{IsRequest, SpellsRequest, request_fault}
use Rattle.mm_st15.proofs.OnlyLemmas.{read_alone}
use Rattle.mm_st15.proofs.RequestLemmas.{one_request, not_refused}
use Rattle.mm_st15.proofs.request.Request.read.Goals as goal

pub returns-clause-only : goal.returns-clause-only
returns-clause-only c = λ request fits spells.
    let packet = c.args.packet.now in
    read_alone (λ x. IsRequest x × SpellsRequest packet x) (request_fault packet) request c.request_in.result (λ other is. one_request packet other request is.0 fits is.1 spells)
    (not_refused packet request fits spells) c.request_in.ensures.found c.request_in.ensures.refused
