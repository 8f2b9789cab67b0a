use Rattle.mm_desk.proofs.FateLemmas.{conserved}
use Rattle.mm_desk.proofs.laws.events_conserve_packets.Goals as goal

pub returns : goal.returns
returns c = record { law = conserved }
