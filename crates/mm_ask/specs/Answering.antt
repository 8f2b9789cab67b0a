-- What a line of the conversation leaves.
use Rattle.std.specs.Prelude.{◌≡◌, ◌⊎◌, ℕ, List, [], ◌++◌, fold, IsTrue, Result, Ok, Err}
use Rattle.mm_packet.specs.Packet.{SpacePacket}
use Rattle.mm_packet.specs.Spelling.{spelling}
use Rattle.mm_st15.specs.declared.report.Report.{Report}
use Rattle.mm_st15.specs.declared.request.Request.{Request}
use Rattle.mm_st15.specs.Report.{kind_of}
use Rattle.mm_st15.specs.Request.{IsRequest, SpellsRequest}
use Rattle.mm_memory.specs.declared.answer.Answer.{Answer}
use Rattle.mm_memory.specs.declared.answer.Answer.TheVariants as answer
use Rattle.mm_memory.specs.Applying.{AppliesEach}
use Rattle.mm_memory.specs.Holdings.{Holdings}
use Rattle.mm_memory.specs.Instruction.{instructions_of}
use Rattle.mm_memory.specs.Reports.{reports_on}
use Rattle.mm_ask.specs.declared.answering.Outcome.{Outcome}
use Rattle.mm_ask.specs.declared.answering.Outcome.TheVariants.{AllDone, SomeRefused}
use Rattle.mm_ask.specs.declared.fault.LineFault.{LineFault}
use Rattle.mm_ask.specs.declared.fault.LineFault.TheVariants.{NoMemory}
use Rattle.mm_ask.specs.Counting.{Counts, no_counts, counted, numbers_of}
use Rattle.mm_ask.specs.Line.{has_digits, request_of}
use Rattle.mm_ask.specs.Telemetry.{telemetry_of}
use Rattle.mm_ask.specs.Text.{refused_line, answer_lines, report_line}

-- where a conversation stands: the memory, how many reports there were, the text so far, and
-- whether all was done so far
pub record Standing : Type 0 where
  pub memory : Holdings
  pub counts : Counts
  pub text : List ℕ
  pub outcome : Outcome

-- where a conversation with this memory begins
abbrev pub opened : Holdings → Standing
opened memory = record { memory = memory; counts = no_counts; text = []; outcome = AllDone }

-- what is all done stays so where this is done
abbrev pub outcome_after : Outcome → Answer → Outcome
outcome_after outcome answer.Done = outcome
outcome_after outcome (answer.Refused fault) = SomeRefused

-- the line on a report is printed, and the report is counted
abbrev pub with_report : ℕ → SpacePacket → Standing → Report → Standing
with_report line asked s report = record s {
  counts = counted s.counts (kind_of report);
  text = s.text ++ report_line line (spelling (telemetry_of asked (numbers_of s.counts (kind_of report)) report));
}

-- the lines on reports are printed, in order
abbrev pub with_reports : ℕ → SpacePacket → List Report → Standing → Standing
with_reports line asked reports s = fold (with_report line asked) s reports

-- the lines on the instructions are printed
abbrev pub with_answers : ℕ → List Answer → Standing → Standing
with_answers line answers s =
    record s { text = s.text ++ answer_lines line 1 answers; outcome = fold outcome_after s.outcome answers }

-- the line is refused whole: it says so, and nothing else changes
abbrev pub refused_whole : ℕ → LineFault → Standing → Standing
refused_whole line fault s = record s { text = s.text ++ refused_line line fault; outcome = SomeRefused }

-- the request of this packet is applied at the moment that is the line's number: its instructions
-- are answered one by one, and then come its reports
pub record Applied (line : ℕ) (asked : SpacePacket) (s t : Standing) : Type 0 where
  pub request : Request
  pub is_request : IsRequest request
  pub spelled : SpellsRequest asked request
  pub answers : List Answer
  pub memory : Holdings
  pub each : AppliesEach (instructions_of request) s.memory answers memory
  pub after : t ≡ with_reports line asked (reports_on request line s.memory)
      (with_answers line answers (record s { memory = memory }))

-- what a line's request leaves
abbrev pub AnswersTo : ℕ → Result SpacePacket LineFault → Standing → Standing → Type 0
AnswersTo line (Err fault) s t = t ≡ refused_whole line fault s
AnswersTo line (Ok asked) s t = Applied line asked s t

-- a line is refused out of memory; its digits are valid then, since that test comes before memory is taken
abbrev pub LacksMemory : ℕ → List ℕ → Standing → Standing → Type 0
LacksMemory line octets s t = IsTrue (has_digits octets) × (t ≡ refused_whole line NoMemory s)

-- what a line leaves
abbrev pub Follows : ℕ → List ℕ → Standing → Standing → Type 0
Follows line octets s t = AnswersTo line (request_of octets) s t ⊎ LacksMemory line octets s t
