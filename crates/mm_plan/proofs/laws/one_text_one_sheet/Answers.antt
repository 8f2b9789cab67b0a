use Rattle.mm_plan.proofs.Texts.{one_sheet}
use Rattle.mm_plan.proofs.laws.one_text_one_sheet.Goals as goal

pub returns : goal.returns
returns c = one_sheet
