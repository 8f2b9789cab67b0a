-- A conversation counts the reports that it prints.
use Rattle.std.proofs.Common.{◌≡◌, ℕ, ◌+◌, List, [], ◌∷◌, ◌++◌, inl, inr, Result, Ok, Err, refl, sym, ap, ◌∙◌, append-nil, append_assoc}
use Rattle.std.specs.Prelude.{fold}
use Rattle.std.proofs.lemmas.List.Sums.{fold-append}
use Rattle.mm_packet.specs.Packet.{SpacePacket}
use Rattle.mm_st15.specs.declared.report.Report.{Report}
use Rattle.mm_st15.specs.declared.report_kind.ReportKind.{ReportKind}
use Rattle.mm_memory.specs.Reports.{reports_on}
use Rattle.mm_ask.specs.declared.fault.LineFault.{LineFault}
use Rattle.mm_ask.specs.Answering.{Standing, with_report, with_reports, with_answers, AnswersTo, Follows}
use Rattle.mm_ask.specs.Asking.{Converses}
use Rattle.mm_ask.specs.Counting.{Counts, no_counts, counted, counts_after}
use Rattle.mm_ask.specs.Laws.{kinds_of, told_of, told_in, told}
use Rattle.mm_ask.specs.Line.{request_of}
use Rattle.mm_ask.specs.Lines.{Passes}

-- reports are counted from where the counts stand
reports_from : (line : ℕ) (asked : SpacePacket) (reports : List Report) (s : Standing) → (with_reports line asked reports s).counts ≡ fold counted s.counts (kinds_of reports)
reports_from line asked [] s = refl
reports_from line asked (r ∷ rs) s = reports_from line asked rs (with_report line asked s r)

-- counts after some reports, and then after more
pub counts_more : (before more : List ReportKind) (a b : Counts) → a ≡ counts_after before → b ≡ fold counted a more → b ≡ counts_after (before ++ more)
counts_more before more a b from is = is ∙ ap (λ (c : Counts). fold counted c more) from ∙ sym (fold-append counted no_counts before more)

counts_same : (before : List ReportKind) (a : Counts) → a ≡ counts_after before → a ≡ counts_after (before ++ [])
counts_same before a from = from ∙ ap counts_after (sym (append-nil before))

pub reports_count : (line : ℕ) (asked : SpacePacket) (reports : List Report) (s : Standing) (before : List ReportKind) → s.counts ≡ counts_after before
    → (with_reports line asked reports s).counts ≡ counts_after (before ++ kinds_of reports)
reports_count line asked reports s before from = counts_more before (kinds_of reports) s.counts _ from (reports_from line asked reports s)

-- what a line's request leaves
answers_count : (line : ℕ) (asked : Result SpacePacket LineFault) (s t : Standing) (answers : AnswersTo line asked s t) (before : List ReportKind) → s.counts ≡ counts_after before
    → t.counts ≡ counts_after (before ++ told_of line asked s t answers)
answers_count line (Ok asked) s t answers before from =
    ap (λ (x : Standing). x.counts) answers.after
    ∙ reports_count line asked (reports_on answers.request line s.memory) (with_answers line answers.answers (record s { memory = answers.memory })) before from
answers_count line (Err fault) s t answers before from = counts_same before t.counts (ap (λ (x : Standing). x.counts) answers ∙ from)

-- what a line leaves
passes_count : (line : ℕ) (octets : List ℕ) (s t : Standing) (passes : Passes Follows line octets s t) (before : List ReportKind) → s.counts ≡ counts_after before
    → t.counts ≡ counts_after (before ++ told_in line octets s t passes)
passes_count line [] s t passes before from = counts_same before t.counts (ap (λ (x : Standing). x.counts) passes ∙ from)
passes_count line (c ∷ cs) s t (inl answers) before from = answers_count line (request_of (c ∷ cs)) s t answers before from
passes_count line (c ∷ cs) s t (inr lacks) before from = counts_same before t.counts (ap (λ (x : Standing). x.counts) lacks.1 ∙ from)

-- what lines leave
pub lines_count : (line : ℕ) (lines : List (List ℕ)) (s t : Standing) (conversation : Converses line lines s t) (before : List ReportKind) → s.counts ≡ counts_after before
    → t.counts ≡ counts_after (before ++ told line lines s t conversation)
lines_count line [] s t conversation before from = counts_same before t.counts (ap (λ (x : Standing). x.counts) conversation ∙ from)
lines_count line (octets ∷ more) s t conversation before from =
    let first = told_in line octets s conversation.0 conversation.1 in
    let rest = told (line + 1) more conversation.0 t conversation.2 in
    lines_count (line + 1) more conversation.0 t conversation.2 (before ++ first) (passes_count line octets s conversation.0 conversation.1 before from)
    ∙ ap counts_after (append_assoc before first rest)
