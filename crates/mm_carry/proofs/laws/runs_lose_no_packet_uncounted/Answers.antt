use Rattle.mm_carry.proofs.AccountLemmas.{accounted}
use Rattle.mm_carry.proofs.laws.runs_lose_no_packet_uncounted.Goals as goal

pub returns : goal.returns
returns c = record { law = accounted c.events_keep_a_state.ensures.log }
