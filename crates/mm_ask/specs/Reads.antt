-- What the lines of packets read as.
use Rattle.std.specs.Prelude.{◌≡◌, ℕ, ◌==◌, Bool, true, false, not, List, [], ◌∷◌, ◌++◌, filter, Option, Some, None}
use Rattle.std.specs.Prelude.{Result, Ok, Err}
use Rattle.mm_base.specs.Characters.{line_feed, space}
use Rattle.mm_base.specs.Lines.{text_lines}
use Rattle.mm_packet.specs.declared.header.PacketType.{PacketType}
use Rattle.mm_packet.specs.declared.header.PacketType.TheVariants.{Telecommand, Telemetry}
use Rattle.mm_packet.specs.Packet.{SpacePacket}
use Rattle.mm_st15.specs.declared.fault.Fault.{Fault as RequestFault}
use Rattle.mm_st15.specs.declared.report.Report.{Report}
use Rattle.mm_st15.specs.declared.request.Request.{Request}
use Rattle.mm_st15.specs.Report.{IsReport, SpellsReport, report_fault}
use Rattle.mm_st15.specs.Request.{IsRequest, SpellsRequest, request_fault}
use Rattle.mm_ask.specs.declared.answering.Outcome.{Outcome}
use Rattle.mm_ask.specs.declared.answering.Outcome.TheVariants.{AllDone, SomeRefused}
use Rattle.mm_ask.specs.declared.fault.LineFault.{LineFault}
use Rattle.mm_ask.specs.Fault.{of_request}
use Rattle.mm_ask.specs.Label.{is_answer, labelled}
use Rattle.mm_ask.specs.Line.{packet_of}
use Rattle.mm_ask.specs.Lines.{PassesEach}
use Rattle.mm_ask.specs.PacketWords.{header_line, request_lines, report_lines}
use Rattle.mm_ask.specs.Text.{refused_line}

-- what is read so far: the text, and whether each line was a packet of the service
pub record SoFar : Type 0 where
  pub text : List ℕ
  pub outcome : Outcome

-- nothing is read
abbrev pub nothing : SoFar
nothing = record { text = []; outcome = AllDone }

-- these lines are printed
abbrev pub with_lines : List ℕ → SoFar → SoFar
with_lines lines s = record s { text = s.text ++ lines }

-- the line on what is refused is printed
abbrev pub with_refused : ℕ → LineFault → SoFar → SoFar
with_refused number fault s = record { text = s.text ++ refused_line number fault; outcome = SomeRefused }

-- the request that a packet spells is printed
pub record ShowsRequest (number : ℕ) (packet : SpacePacket) (s t : SoFar) : Type 0 where
  pub request : Request
  pub is_request : IsRequest request
  pub spelled : SpellsRequest packet request
  pub after : t ≡ with_lines (request_lines number request) s

-- the report that a packet spells is printed
pub record ShowsReport (packet : SpacePacket) (s t : SoFar) : Type 0 where
  pub report : Report
  pub is_report : IsReport report
  pub spelled : SpellsReport packet report
  pub after : t ≡ with_lines (report_lines report) s

-- the first test that the packet fails is printed, or what it spells
abbrev pub ShowsOr : ℕ → Option RequestFault → (SoFar → SoFar → Type 0) → SoFar → SoFar → Type 0
ShowsOr number None Shows s t = Shows s t
ShowsOr number (Some fault) Shows s t = t ≡ with_refused number (of_request fault) s

-- what a packet spells as a request, where it is a telecommand, and as a report, where it is telemetry
abbrev pub ShowsData : PacketType → ℕ → SpacePacket → SoFar → SoFar → Type 0
ShowsData (Telecommand source) number packet s t =
    ShowsOr number (request_fault packet) (ShowsRequest number packet) s t
ShowsData (Telemetry counter destination time) number packet s t =
    ShowsOr number (report_fault packet) (ShowsReport packet) s t

-- a packet is printed: its headers, and then what it spells
abbrev pub ShowsPacket : ℕ → SpacePacket → SoFar → SoFar → Type 0
ShowsPacket number packet s t = ShowsData packet.kind number packet (with_lines (header_line number packet) s) t

-- digits without the spaces between them
abbrev pub without_spaces : List ℕ → List ℕ
without_spaces digits = filter (λ c. not (c == space)) digits

-- what digits leave
abbrev pub ShowsResult : ℕ → Result SpacePacket LineFault → SoFar → SoFar → Type 0
ShowsResult number (Err fault) s t = t ≡ with_refused number fault s
ShowsResult number (Ok packet) s t = ShowsPacket number packet s t

-- what the digits of a number's packet leave
abbrev pub ShowsDigits : ℕ × List ℕ → SoFar → SoFar → Type 0
ShowsDigits found s t = ShowsResult found.0 (packet_of (without_spaces found.1)) s t

-- an answer of `ask` is printed as it stands; any other line is read as a packet
abbrev pub ShowsLine : Bool → ℕ → List ℕ → SoFar → SoFar → Type 0
ShowsLine true line octets s t = t ≡ with_lines (octets ++ line_feed ∷ []) s
ShowsLine false line octets s t = ShowsDigits (labelled line octets) s t

-- what a line that is not empty leaves
abbrev pub Shows : ℕ → List ℕ → SoFar → SoFar → Type 0
Shows line octets s t = ShowsLine (is_answer octets) line octets s t

-- what lines leave; they are numbered from this number on
abbrev pub ShowsEach : ℕ → List (List ℕ) → SoFar → SoFar → Type 0
ShowsEach = PassesEach Shows

-- the text and the outcome are what the lines of packets read as
pub record Reads (packets : List ℕ) (outcome : Outcome) (text : List ℕ) : Type 0 where
  pub end : SoFar
  pub each : ShowsEach 1 (text_lines packets) nothing end
  pub ends : outcome ≡ end.outcome
  pub says_all : text ≡ end.text

-- packets read as one text, with one outcome
abbrev pub PacketsReadOneWay : Type 0
PacketsReadOneWay = (packets : List ℕ) (a b : Outcome) (text other : List ℕ) → Reads packets a text
    → Reads packets b other → (a ≡ b) × (text ≡ other)
