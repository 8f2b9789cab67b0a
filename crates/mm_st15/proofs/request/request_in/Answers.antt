use Rattle.std.proofs.Common.{◌≡◌, Some, rules}
use Rattle.mm_packet.specs.Spelling.{type_bit}
use Rattle.mm_st15.specs.declared.service.TheConstants.{SERVICE}
use Rattle.mm_st15.specs.RequestKind.{kind_at}
use Rattle.mm_st15.proofs.RequestLemmas.{refused_by_data}
use Rattle.mm_st15.proofs.request.request_in.Goals as goal

pub returns-clause-refused : goal.returns-clause-refused
returns-clause-refused c =
    let packet = c.args.packet.now in
    let bit : type_bit packet.kind ≡ 1 = search rules in
    let service : packet.header.service ≡ SERVICE = search rules in
    let found : kind_at packet.header.subtype ≡ Some c.in_ok-kind.kind = search rules in
    refused_by_data packet c.in_ok-kind.kind c.with_data.result bit service found (rw c.body.ensures.value at c.with_data.ensures.refused)
