use Rattle.mm_mission_sheet.proofs.LawLemmas.{losses_add_up}
use Rattle.mm_mission_sheet.proofs.laws.losses_add_up.Goals as goal

pub returns : goal.returns
returns c = λ m edges steps s h times below. losses_add_up m edges steps s h times below
