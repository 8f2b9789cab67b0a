use Rattle.mm_cut.proofs.Helping.{cuts_count_alike}
use Rattle.mm_cut.proofs.laws.cuts_count_alike.Goals as goal

pub returns : goal.returns
returns c = cuts_count_alike
