use Rattle.mm_flow.proofs.Sides.{value_within_cut}
use Rattle.mm_flow.proofs.laws.value_is_within_each_cut.Goals as goal

pub returns : goal.returns
returns c = value_within_cut
