use Rattle.mm_blocks.proofs.SoundLemmas.{row_changed}
use Rattle.mm_blocks.proofs.laws.changes_of_row_are_found.Goals as goal

pub returns : goal.returns
returns c = record { law = row_changed }
