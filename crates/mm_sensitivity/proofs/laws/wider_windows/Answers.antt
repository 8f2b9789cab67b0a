use Rattle.mm_sensitivity.proofs.Found.{wider_windows}
use Rattle.mm_sensitivity.proofs.laws.wider_windows.Goals as goal

pub returns : goal.returns
returns c = wider_windows c.cuts_bound_losses.ensures
