use Rattle.mm_st15.proofs.ReportLemmas.{not_refused}
use Rattle.mm_st15.proofs.laws.report_is_not_refused.Goals as goal

pub returns : goal.returns
returns c = record { law = not_refused }
