use Rattle.std.proofs.Common.{ap, ◌∙◌}
use Rattle.mm_packet.specs.Reading.{packet_at}
use Rattle.mm_packet.proofs.AgainLemmas.{packet_again, is_only}
use Rattle.mm_packet.proofs.packet.Packet.parse.Goals as goal

pub returns-clause-only : goal.returns-clause-only
returns-clause-only c = λ packet rest fits spelled.
    is_only (λ r. r.now) c.packet_at.result packet rest (packet_at c.args.octets.now) (ap packet_at spelled ∙ packet_again packet rest fits) c.packet_at.ensures.exact
