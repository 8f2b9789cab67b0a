use Rattle.mm_cut.proofs.Duality.{cuts_bound_losses}
use Rattle.mm_cut.proofs.laws.cuts_bound_losses.Goals as goal

pub returns : goal.returns
returns c = cuts_bound_losses
