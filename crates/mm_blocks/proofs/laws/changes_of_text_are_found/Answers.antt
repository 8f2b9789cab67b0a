use Rattle.mm_blocks.proofs.SoundLemmas.{text_changed}
use Rattle.mm_blocks.proofs.laws.changes_of_text_are_found.Goals as goal

pub returns : goal.returns
returns c = record { law = text_changed }
