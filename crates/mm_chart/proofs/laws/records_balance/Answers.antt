use Rattle.mm_chart.proofs.Listing.{records_balance}
use Rattle.mm_chart.proofs.laws.records_balance.Goals as goal

pub returns : goal.returns
returns c = records_balance
