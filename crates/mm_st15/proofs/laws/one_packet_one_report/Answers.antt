use Rattle.mm_st15.proofs.ReportLemmas.{one_report}
use Rattle.mm_st15.proofs.laws.one_packet_one_report.Goals as goal

pub returns : goal.returns
returns c = record { law = one_report }
