use Rattle.mm_packet.proofs.AgainLemmas.{one_packet}
use Rattle.mm_packet.proofs.laws.one_packet_one_spelling.Goals as goal

pub returns : goal.returns
returns c = record { law = one_packet }
