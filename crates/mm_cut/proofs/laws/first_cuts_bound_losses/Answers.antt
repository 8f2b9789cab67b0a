use Rattle.mm_cut.proofs.Duality.{first_cuts_bound_losses}
use Rattle.mm_cut.proofs.laws.first_cuts_bound_losses.Goals as goal

pub returns : goal.returns
returns c = first_cuts_bound_losses
