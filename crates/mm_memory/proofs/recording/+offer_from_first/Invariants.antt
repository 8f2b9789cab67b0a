use Rattle.mm_memory.proofs.Words.{length}
use Rattle.mm_memory.proofs.recording.+offer_from_first.Given as goal

abbrev pub decreases-offer_from_first : goal.decreases-offer_from_first
decreases-offer_from_first l = length l.stores.now
