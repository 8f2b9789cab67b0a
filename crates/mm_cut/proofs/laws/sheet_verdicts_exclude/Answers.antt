use Rattle.mm_cut.proofs.Exclusion.{sheet_verdicts_exclude}
use Rattle.mm_cut.proofs.laws.sheet_verdicts_exclude.Goals as goal

pub returns : goal.returns
returns c = sheet_verdicts_exclude
