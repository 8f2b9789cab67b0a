-- The numbers of reports: the packet sequence count runs over all, the message type counter over
-- those of a subtype.
use Rattle.std.specs.Prelude.{ℕ, ◌+◌, ◌%◌, ◌^◌, ◌==◌, List, count_by, fold}
use Rattle.mm_st15.specs.declared.report_kind.ReportKind.{ReportKind}
use Rattle.mm_st15.specs.declared.report_kind.ReportKind.TheVariants.{Control, Summaries, Statuses, Configurations}
use Rattle.mm_st15.specs.ReportKind.{code_of}
use Rattle.mm_packet.specs.declared.header.TheConstants.{SEQUENCE_COUNTS}
use Rattle.mm_ask.specs.declared.counters.Numbers.{Numbers}

-- how many reports there were, in all and of each subtype, as packets count them
pub record Counts : Type 0 where
  pub sequence : ℕ
  pub control : ℕ
  pub summaries : ℕ
  pub statuses : ℕ
  pub configurations : ℕ

-- no report so far
abbrev pub no_counts : Counts
no_counts = record { sequence = 0; control = 0; summaries = 0; statuses = 0; configurations = 0 }

-- the next sequence count, and the next message type counter
abbrev pub next_sequence : ℕ → ℕ
next_sequence n = (n + 1) % SEQUENCE_COUNTS

abbrev pub next_counter : ℕ → ℕ
next_counter n = (n + 1) % 2 ^ 16

-- the counts after one report more, of this kind
abbrev pub counted : Counts → ReportKind → Counts
counted c Control = record c { sequence = next_sequence c.sequence; control = next_counter c.control }
counted c Summaries = record c { sequence = next_sequence c.sequence; summaries = next_counter c.summaries }
counted c Statuses = record c { sequence = next_sequence c.sequence; statuses = next_counter c.statuses }
counted c Configurations = record c { sequence = next_sequence c.sequence; configurations = next_counter c.configurations }

-- the message type counter of the next report of this kind
abbrev pub counter_of : Counts → ReportKind → ℕ
counter_of c Control = c.control
counter_of c Summaries = c.summaries
counter_of c Statuses = c.statuses
counter_of c Configurations = c.configurations

-- the numbers of the next report, of this kind
abbrev pub numbers_of : Counts → ReportKind → Numbers
numbers_of c kind = record { sequence = c.sequence; counter = counter_of c kind }

-- the counts after these reports
abbrev pub counts_after : List ReportKind → Counts
counts_after kinds = fold counted no_counts kinds

-- how many of these reports have the subtype of this one
abbrev pub how_many : ReportKind → List ReportKind → ℕ
how_many kind kinds = count_by (λ k. code_of k == code_of kind) kinds
