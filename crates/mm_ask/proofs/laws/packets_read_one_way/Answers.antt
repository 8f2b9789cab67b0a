use Rattle.mm_ask.proofs.ReadingLemmas.{packets_read_one_way}
use Rattle.mm_ask.proofs.laws.packets_read_one_way.Goals as goal

pub returns : goal.returns
returns c = record { law = packets_read_one_way c.one_packet_one_request.ensures.law c.one_packet_one_report.ensures.law }
