use Rattle.mm_packet.proofs.AgainLemmas.{packet_again}
use Rattle.mm_packet.proofs.laws.written_is_read.Goals as goal

pub returns : goal.returns
returns c = record { law = packet_again }
