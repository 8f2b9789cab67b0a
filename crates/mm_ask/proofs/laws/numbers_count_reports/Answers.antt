use Rattle.std.proofs.Common.{◌%◌, ◌^◌, ◌∙◌, length, refl, ap, zero-add}
use Rattle.mm_st15.specs.declared.report_kind.ReportKind.{ReportKind}
use Rattle.mm_st15.specs.declared.report_kind.ReportKind.TheVariants.{Control, Summaries, Statuses, Configurations}
use Rattle.mm_packet.specs.declared.header.TheConstants.{SEQUENCE_COUNTS}
use Rattle.mm_ask.specs.Counting.{no_counts, counter_of, how_many}
use Rattle.mm_ask.proofs.CountLemmas.{sequence_from, counter_from}
use Rattle.mm_ask.proofs.laws.numbers_count_reports.Goals as goal
use Rattle.std.proofs.Common.{◌≡◌}

nothing_counted : (kind : ReportKind) → counter_of no_counts kind ≡ 0 % 2 ^ 16
nothing_counted Control = refl
nothing_counted Summaries = refl
nothing_counted Statuses = refl
nothing_counted Configurations = refl

pub returns : goal.returns
returns c = record {
  law = λ before kind. (
    sequence_from no_counts 0 before refl ∙ ap (λ m. m % SEQUENCE_COUNTS) (zero-add (length before)),
    counter_from no_counts kind 0 before (nothing_counted kind) ∙ ap (λ m. m % 2 ^ 16) (zero-add (how_many kind before)),
  );
}
