use Rattle.mm_st15.proofs.RequestLemmas.{not_refused}
use Rattle.mm_st15.proofs.laws.request_is_not_refused.Goals as goal

pub returns : goal.returns
returns c = record { law = not_refused }
