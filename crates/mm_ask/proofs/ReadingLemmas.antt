-- Packets read as one text.
use Rattle.std.proofs.Common.{◌≡◌, ℕ, ◌+◌, Bool, true, false, List, [], ◌∷◌, Option, Some, None, Result, Ok, Err, sym, ap, ◌∙◌, subst}
use Rattle.mm_base.specs.Lines.{text_lines}
use Rattle.mm_packet.specs.declared.header.PacketType.{PacketType}
use Rattle.mm_packet.specs.declared.header.PacketType.TheVariants.{Telecommand, Telemetry}
use Rattle.mm_packet.specs.Packet.{SpacePacket}
use Rattle.mm_st15.specs.declared.fault.Fault.{Fault as RequestFault}
use Rattle.mm_st15.specs.Laws.{OnePacketOneReport, OnePacketOneRequest}
use Rattle.mm_st15.specs.Report.{report_fault}
use Rattle.mm_st15.specs.Request.{request_fault}
use Rattle.mm_ask.specs.declared.fault.LineFault.{LineFault}
use Rattle.mm_ask.specs.Label.{is_answer, labelled}
use Rattle.mm_ask.specs.Line.{packet_of}
use Rattle.mm_ask.specs.Lines.{Passes}
use Rattle.mm_ask.specs.PacketWords.{header_line, request_lines, report_lines}
use Rattle.mm_ask.specs.Reads.{SoFar, nothing, with_lines, without_spaces, ShowsRequest, ShowsReport, ShowsOr, ShowsData, ShowsResult, ShowsLine, Shows, ShowsEach, PacketsReadOneWay}

module _ (requests : OnePacketOneRequest) (reports : OnePacketOneReport) where
  request_once : (n : ℕ) (p : SpacePacket) (s t u : SoFar) → ShowsRequest n p s t → ShowsRequest n p s u → t ≡ u
  request_once n p s t u a b =
      let same : a.request ≡ b.request = requests p a.request b.request a.is_request b.is_request a.spelled b.spelled in
      a.after ∙ ap (λ r. with_lines (request_lines n r) s) same ∙ sym b.after

  report_once : (p : SpacePacket) (s t u : SoFar) → ShowsReport p s t → ShowsReport p s u → t ≡ u
  report_once p s t u a b =
      let same : a.report ≡ b.report = reports p a.report b.report a.is_report b.is_report a.spelled b.spelled in
      a.after ∙ ap (λ r. with_lines (report_lines r) s) same ∙ sym b.after

  or_once : (n : ℕ) (o : Option RequestFault) (P : SoFar → SoFar → Type 0) (s t u : SoFar) → (P s t → P s u → t ≡ u) → ShowsOr n o P s t → ShowsOr n o P s u → t ≡ u
  or_once n None P s t u once a b = once a b
  or_once n (Some fault) P s t u once a b = a ∙ sym b

  data_once : (kind : PacketType) (n : ℕ) (p : SpacePacket) (s t u : SoFar) → ShowsData kind n p s t → ShowsData kind n p s u → t ≡ u
  data_once (Telecommand source) n p s t u a b = or_once n (request_fault p) (ShowsRequest n p) s t u (request_once n p s t u) a b
  data_once (Telemetry counter destination time) n p s t u a b = or_once n (report_fault p) (ShowsReport p) s t u (report_once p s t u) a b

  result_once : (n : ℕ) (r : Result SpacePacket LineFault) (s t u : SoFar) → ShowsResult n r s t → ShowsResult n r s u → t ≡ u
  result_once n (Err fault) s t u a b = a ∙ sym b
  result_once n (Ok p) s t u a b = data_once p.kind n p (with_lines (header_line n p) s) t u a b

  line_once : (answer : Bool) (line : ℕ) (octets : List ℕ) (s t u : SoFar) → ShowsLine answer line octets s t → ShowsLine answer line octets s u → t ≡ u
  line_once true line octets s t u a b = a ∙ sym b
  line_once false line octets s t u a b = result_once (labelled line octets).0 (packet_of (without_spaces (labelled line octets).1)) s t u a b

  shows_once : (line : ℕ) (octets : List ℕ) (s t u : SoFar) → Passes Shows line octets s t → Passes Shows line octets s u → t ≡ u
  shows_once line [] s t u a b = a ∙ sym b
  shows_once line (c ∷ cs) s t u a b = line_once (is_answer (c ∷ cs)) line (c ∷ cs) s t u a b

  -- what lines leave is one
  each_once : (line : ℕ) (lines : List (List ℕ)) (s t u : SoFar) → ShowsEach line lines s t → ShowsEach line lines s u → t ≡ u
  each_once line [] s t u a b = a ∙ sym b
  each_once line (octets ∷ more) s t u a b =
      let same : a.0 ≡ b.0 = shows_once line octets s a.0 b.0 a.1 b.1 in
      each_once (line + 1) more b.0 t u (subst (λ x. ShowsEach (line + 1) more x t) same a.2) b.2

  pub packets_read_one_way : PacketsReadOneWay
  packets_read_one_way packets o p text other a b =
      let same : a.end ≡ b.end = each_once 1 (text_lines packets) nothing a.end b.end a.each b.each in
      (a.ends ∙ ap (λ (x : SoFar). x.outcome) same ∙ sym b.ends, a.says_all ∙ ap (λ (x : SoFar). x.text) same ∙ sym b.says_all)
