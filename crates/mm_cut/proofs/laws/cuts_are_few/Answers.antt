use Rattle.mm_cut.proofs.Counting.{cuts_are_few}
use Rattle.mm_cut.proofs.laws.cuts_are_few.Goals as goal

pub returns : goal.returns
returns c = cuts_are_few
