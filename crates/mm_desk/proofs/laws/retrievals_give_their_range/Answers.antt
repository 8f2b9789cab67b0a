use Rattle.mm_desk.proofs.RetrievalLemmas.{gives_range}
use Rattle.mm_desk.proofs.laws.retrievals_give_their_range.Goals as goal

pub returns : goal.returns
returns c = record { law = gives_range }
