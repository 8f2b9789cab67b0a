use Rattle.mm_st15.specs.Report.{IsReport, SpellsReport, report_fault}
use Rattle.mm_st15.proofs.OnlyLemmas.{read_alone}
use Rattle.mm_st15.proofs.ReportLemmas.{one_report, not_refused}
use Rattle.mm_st15.proofs.report.Report.read.Goals as goal

pub returns-clause-only : goal.returns-clause-only
returns-clause-only c = λ report fits spells.
    let packet = c.args.packet.now in
    read_alone (λ x. IsReport x × SpellsReport packet x) (report_fault packet) report c.report_in.result (λ other is. one_report packet other report is.0 fits is.1 spells)
    (not_refused packet report fits spells) c.report_in.ensures.found c.report_in.ensures.refused
