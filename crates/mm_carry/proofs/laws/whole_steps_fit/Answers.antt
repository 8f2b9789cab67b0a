use Rattle.mm_carry.proofs.Drawing.{whole_fits}
use Rattle.mm_carry.proofs.laws.whole_steps_fit.Goals as goal

pub returns : goal.returns
returns c = record { law = whole_fits }
