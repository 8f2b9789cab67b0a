use Rattle.std.proofs.Common.{◌∙◌, take, sym, ap}
use Rattle.std.specs.Prelude.{fold}
use Rattle.std.proofs.lemmas.List.Sums.{fold_more}
use Rattle.mm_st15.specs.declared.report.Report.{Report}
use Rattle.mm_ask.specs.Answering.{Standing, with_report}
use Rattle.mm_ask.proofs.answering.Conversation.report_all.Goals as goal

pub loop-report-preserved : goal.loop-report-preserved
loop-report-preserved c =
    let f = with_report c.args.line c.args.asked.now in
    let begun = c.args.self.now in
    let reports = c.args.reports.now in
    let i = c.loop-report.report-index in
    let item = c.report-item.result in
    c.in_ok-report.ensures
    ∙ ap (λ (s : Standing). f s item) c.loop-report.invariant
    ∙ ap (λ (r : Report). f (fold f begun (take i reports)) r) c.report-item.is
    ∙ sym (fold_more f begun reports i item c.loop-report-test.true)
