use Rattle.mm_chart.proofs.Listing.{sums_add_up}
use Rattle.mm_chart.proofs.laws.sums_add_up.Goals as goal

pub returns : goal.returns
returns c = sums_add_up
