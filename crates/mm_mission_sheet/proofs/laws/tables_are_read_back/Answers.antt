use Rattle.mm_mission_sheet.proofs.LawLemmas.{tables_are_read_back}
use Rattle.mm_mission_sheet.proofs.laws.tables_are_read_back.Goals as goal

pub returns : goal.returns
returns c = tables_are_read_back
