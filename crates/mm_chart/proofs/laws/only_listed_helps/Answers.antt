use Rattle.mm_chart.proofs.Listing.{only_listed_helps}
use Rattle.mm_chart.proofs.laws.only_listed_helps.Goals as goal

pub returns : goal.returns
returns c = only_listed_helps c.only_counted_helps.ensures
