use Rattle.mm_service.proofs.CallLemmas.{calls_made, given_was_brought}
use Rattle.mm_service.proofs.laws.services_lose_no_packet_uncounted.Goals as goal

pub returns : goal.returns
returns c = record {
  law = calls_made c.memories_lose_no_packet_uncounted.ensures.law c.retrievals_give_their_range.ensures.law;
  given = given_was_brought;
}
