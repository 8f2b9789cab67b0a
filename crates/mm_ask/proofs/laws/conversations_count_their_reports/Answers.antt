use Rattle.std.proofs.Common.{[], refl}
use Rattle.mm_ask.specs.Answering.{opened}
use Rattle.mm_ask.proofs.ConversationLemmas.{lines_count, reports_count}
use Rattle.mm_ask.proofs.laws.conversations_count_their_reports.Goals as goal

pub returns : goal.returns
returns c = record {
  lines = λ memory lines t conversation. lines_count 1 lines (opened memory) t conversation [] refl;
  reports = reports_count;
}
