use Rattle.mm_memory.proofs.Words.{AreHeld-same_ids}
use Rattle.mm_memory.proofs.laws.identifiers_decide_what_is_restored.Goals as goal

pub returns : goal.returns
returns c = record { law = AreHeld-same_ids }
