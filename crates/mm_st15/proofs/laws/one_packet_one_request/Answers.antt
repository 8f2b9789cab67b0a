use Rattle.mm_st15.proofs.RequestLemmas.{one_request}
use Rattle.mm_st15.proofs.laws.one_packet_one_request.Goals as goal

pub returns : goal.returns
returns c = record { law = one_request }
