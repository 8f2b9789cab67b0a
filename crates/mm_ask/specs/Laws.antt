-- Laws over the numbers of reports.
use Rattle.std.specs.Prelude.{◌≡◌, ℕ, ◌+◌, ◌%◌, ◌^◌, List, [], ◌∷◌, ◌++◌, map, length, Result, Ok, Err}
use Rattle.std.proofs.Common.{inl, inr}
use Rattle.mm_packet.specs.Packet.{SpacePacket}
use Rattle.mm_st15.specs.declared.report.Report.{Report}
use Rattle.mm_st15.specs.Report.{kind_of}
use Rattle.mm_memory.specs.Holdings.{Holdings}
use Rattle.mm_memory.specs.Reports.{reports_on}
use Rattle.mm_ask.specs.declared.fault.LineFault.{LineFault}
use Rattle.mm_ask.specs.Answering.{Standing, opened, with_reports, AnswersTo, Follows}
use Rattle.mm_ask.specs.Asking.{Converses}
use Rattle.mm_ask.specs.Line.{request_of}
use Rattle.mm_ask.specs.Lines.{Passes}
use Rattle.mm_st15.specs.declared.report_kind.ReportKind.{ReportKind}
use Rattle.mm_packet.specs.declared.header.TheConstants.{SEQUENCE_COUNTS}
use Rattle.mm_ask.specs.Counting.{counts_after, counter_of, how_many}

-- the sequence count of a report is the number of those before it, and its message type counter the
-- number of those of its subtype before it, as far as the fields go
abbrev pub NumbersCountReports : Type 0
NumbersCountReports = (before : List ReportKind) (kind : ReportKind) →
    ((counts_after before).sequence ≡ length before % SEQUENCE_COUNTS)
    × (counter_of (counts_after before) kind ≡ how_many kind before % 2 ^ 16)

-- what the reports of a list tell, in order
abbrev pub kinds_of : List Report → List ReportKind
kinds_of reports = map kind_of reports

-- what the reports on a line's request tell; a line that is refused whole has none
abbrev pub told_of : (line : ℕ) (asked : Result SpacePacket LineFault) (s t : Standing) → AnswersTo line asked s t → List ReportKind
told_of line (Ok asked) s t answers = kinds_of (reports_on answers.request line s.memory)
told_of line (Err fault) s t answers = []

abbrev pub told_by : (line : ℕ) (octets : List ℕ) (s t : Standing) → Follows line octets s t → List ReportKind
told_by line octets s t (inl answers) = told_of line (request_of octets) s t answers
told_by line octets s t (inr lacks) = []

abbrev pub told_in : (line : ℕ) (octets : List ℕ) (s t : Standing) → Passes Follows line octets s t → List ReportKind
told_in line [] s t passes = []
told_in line (c ∷ cs) s t passes = told_by line (c ∷ cs) s t passes

-- what the reports of a conversation tell, in the order in which they are printed
abbrev pub told : (line : ℕ) (lines : List (List ℕ)) (s t : Standing) → Converses line lines s t → List ReportKind
told line [] s t conversation = []
told line (octets ∷ more) s t conversation = told_in line octets s conversation.0 conversation.1 ++ told (line + 1) more conversation.0 t conversation.2

-- a conversation has counted the reports that it printed
abbrev pub ConversationsCount : Type 0
ConversationsCount = (memory : Holdings) (lines : List (List ℕ)) (t : Standing) (conversation : Converses 1 lines (opened memory) t) →
    t.counts ≡ counts_after (told 1 lines (opened memory) t conversation)

-- and so it has after each of the reports on a request
abbrev pub ReportsCount : Type 0
ReportsCount = (line : ℕ) (asked : SpacePacket) (reports : List Report) (s : Standing) (before : List ReportKind) → s.counts ≡ counts_after before →
    (with_reports line asked reports s).counts ≡ counts_after (before ++ kinds_of reports)
