use Rattle.mm_cut.proofs.Helping.{only_counted_helps}
use Rattle.mm_cut.proofs.laws.only_counted_helps.Goals as goal

pub returns : goal.returns
returns c = only_counted_helps
