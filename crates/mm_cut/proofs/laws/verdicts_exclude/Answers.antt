use Rattle.mm_cut.proofs.Exclusion.{verdicts_exclude}
use Rattle.mm_cut.proofs.laws.verdicts_exclude.Goals as goal

pub returns : goal.returns
returns c = verdicts_exclude
