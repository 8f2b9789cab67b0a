use Rattle.mm_record.proofs.Words.{length}
use Rattle.mm_record.proofs.offering.+offer_routed.Given as goal

abbrev pub decreases-offer_routed : goal.decreases-offer_routed
decreases-offer_routed g l = length l.rows.now
