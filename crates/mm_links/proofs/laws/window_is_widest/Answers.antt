use Rattle.mm_links.proofs.Needed.{window_is_widest}
use Rattle.mm_links.proofs.laws.window_is_widest.Goals as goal

pub returns : goal.returns
returns c = window_is_widest
