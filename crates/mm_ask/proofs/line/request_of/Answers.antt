use Rattle.mm_ask.proofs.DigitLemmas.{request_of_packet}
use Rattle.mm_ask.proofs.line.request_of.Goals as goal

pub returns-clause-refused : goal.returns-clause-refused
returns-clause-refused c = rw (request_of_packet c.args.line.now _ c.in_ok-packet.ensures.packet) c.asked_of.ensures.asked
