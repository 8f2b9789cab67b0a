use Rattle.mm_utc.proofs.FractionLemmas.{lowest_is}
use Rattle.mm_utc.proofs.laws.amounts_are_in_lowest_terms.Goals as goal

pub returns : goal.returns
returns c = lowest_is
