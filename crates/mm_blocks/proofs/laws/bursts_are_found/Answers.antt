use Rattle.mm_blocks.proofs.BurstLemmas.{bursts_found}
use Rattle.mm_blocks.proofs.laws.bursts_are_found.Goals as goal

pub returns : goal.returns
returns c = record { law = bursts_found }
