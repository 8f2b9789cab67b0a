use Rattle.std.proofs.Common.{◌≡◌, take}
use Rattle.mm_ask.specs.Answering.{with_reports}
use Rattle.mm_ask.proofs.answering.Conversation.report_all.Given as goal

abbrev pub invariant-loop-report : goal.invariant-loop-report
invariant-loop-report l = l.self ≡ with_reports l.line l.asked (take l.report-index l.reports) l.initial.self
