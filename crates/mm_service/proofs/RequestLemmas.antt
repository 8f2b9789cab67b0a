-- Requests that are made and applied, and the reports on them: how many, and how many wait.
use Rattle.mm_service.proofs.Words.{◌≡◌, ℕ, ◌+◌, ◌-◌, ◌<◌, ◌≤◌, List, [], ◌∷◌, ◌++◌, length, get_or, take, drop, sym}
use Rattle.mm_service.proofs.Words.{ap, ◌∙◌, arith, append_assoc, map, set, length-map, map-append, suc, refl, Request}
use Rattle.mm_service.proofs.Words.{IsRequest, Holdings, Parsed, instructions_of, inl, inr, subst, length-append}
use Rattle.mm_service.proofs.Words.{Option, Some, None, Ok, ok_same, SpacePacket, Report, SpellsRequest, control_at}
use Rattle.mm_service.proofs.Words.{reports_on, PassesBound, request_of, Queue, queue_of, with_report, with_reports}
use Rattle.mm_service.proofs.Words.{Serving, Result, IsPacket, packet_at, spelling, request_fault, LineFault, ◌>>=◌}
use Rattle.mm_service.proofs.Words.{append-nil, IsTelemetry, time_of, PacketType, Telecommand, Telemetry, moment_of}
use Rattle.mm_service.proofs.Words.{SpellsReport}
use Rattle.std.proofs.lemmas.List.{length-take-le, take_more, drop_more, set-append_right}
use Rattle.mm_packet.specs.Laws.{WrittenIsRead}
use Rattle.mm_st15.proofs.RequestLemmas.{one_request}
use Rattle.mm_st15.specs.Laws.{RequestIsNotRefused}
use Rattle.mm_memory.specs.declared.answer.Answer.{Answer}
use Rattle.mm_memory.specs.Applying.{AppliesEach}
use Rattle.mm_memory.proofs.ReportLemmas.{length-filter_map}
use Rattle.mm_ask.specs.Line.{alone, request_tested, packet_alone, request_alone}
use Rattle.mm_service.specs.Bounding.{IsWithin, most_reports, MayWait, KeepsBound}
use Rattle.mm_service.specs.declared.instruction_fields.InstructionFields.{InstructionFields}
use Rattle.mm_service.specs.declared.requesting.RequestFields.{RequestFields}
use Rattle.mm_service.specs.Requesting.{AsksFor, Requests}
use Rattle.mm_st15.specs.declared.request.Request.TheVariants as request

-- one more is written
pub one_more : {A B : Type 0} (f : A → B) (xs : List A) (buffer old : List B) (i : ℕ) (d : A) → i < length xs
    → length xs ≤ length buffer
    → old ≡ map f (take i xs) ++ drop i buffer
    → set old i (f (get_or xs i d)) ≡ map f (take (i + 1) xs) ++ drop (i + 1) buffer
one_more {A} {B} f xs buffer old i d within room was =
    let x = get_or xs i d in
    let head = map f (take i xs) in
    let rest = drop (i + 1) buffer in
    let long : length head ≡ i = length-map (take i xs) f ∙ length-take-le i xs (omega arith) in
    let first : i - i ≡ 0 = omega arith in
    let opened : drop i buffer ≡ get_or buffer i (f d) ∷ rest = drop_more buffer i (f d) (omega arith) in
    ap (λ (ys : List B). set ys i (f x)) was
    ∙ set-append_right head (drop i buffer) i i (f x) long (omega arith)
    ∙ ap (λ (n : ℕ). head ++ set (drop i buffer) n (f x)) first
    ∙ ap (λ (ys : List B). head ++ set ys 0 (f x)) opened
    ∙ sym (append_assoc head (f x ∷ []) rest)
    ∙ ap (λ (ys : List B). ys ++ rest)
    (sym (map-append f (take i xs) (x ∷ [])) ∙ ap (map f) (sym (take_more xs i d within)))

-- there are as many answers as instructions
pub as_many_answers : (parsed : List Parsed) (m : Holdings) (answers : List Answer) (left : Holdings)
    → AppliesEach parsed m answers left → length answers ≡ length parsed
as_many_answers [] m [] left applies = refl
as_many_answers [] m (a ∷ more) left applies = absurd applies
as_many_answers (i ∷ rest) m [] left applies = absurd applies
as_many_answers (i ∷ rest) m (a ∷ more) left applies = ap suc (as_many_answers rest applies.0 more left applies.2)

-- a request has at most 255 instructions
few_made : {A B : Type 0} (f : A → B) (xs : List A) → length xs < 256 → length (map f xs) ≤ 255
few_made f xs count = omega (arith, length-map xs f)

pub few_instructions : (r : Request) → IsRequest r → length (instructions_of r) ≤ 255
few_instructions (request.EnableStorage xs) is = few_made _ xs is.count.1
few_instructions (request.DisableStorage xs) is = few_made _ xs is.count.1
few_instructions (request.AddReportTypes xs) is = few_made _ xs is.count.1
few_instructions (request.DeleteReportTypes xs) is = few_made _ xs is.count.1
few_instructions (request.ReportControl xs) is = few_made _ xs is.count.1
few_instructions (request.StartRetrieval xs) is = few_made _ xs is.count.1
few_instructions (request.DeleteContent xs) is = few_made _ xs is.count.1
few_instructions (request.SummariseContent xs) is = few_made _ xs is.count.1
few_instructions (request.AbortRetrieval xs) is = few_made _ xs is.count.1
few_instructions (request.CreateStores xs) is = few_made _ xs is.count.1
few_instructions (request.DeleteStores xs) is = few_made _ xs is.count.1
few_instructions (request.ResizeStores xs) is = few_made _ xs is.count.1
few_instructions (request.ChangeToCircular xs) is = few_made _ xs is.count.1
few_instructions (request.ChangeToBounded xs) is = few_made _ xs is.count.1
few_instructions (request.ChangeChannel xs) is = few_made _ xs is.count.1
few_instructions request.ReportStatus is = omega arith
few_instructions request.ReportConfiguration is = omega arith

-- each report waits
waits_each : (asked : SpacePacket) (reports : List Report) (q : Queue)
    → length (with_reports asked reports q).waiting ≡ length q.waiting + length reports
waits_each asked [] q = omega arith
waits_each asked (report ∷ rest) q =
    let next = with_report asked q report in
    let more = waits_each asked rest next in
    let one : length next.waiting ≡ length q.waiting + 1 = length-append q.waiting _ in
    omega (arith, more, one)

-- no request has more reports than the most
pub few : (r : Request) (now : ℕ) (m : Holdings) → length (reports_on r now m) ≤ most_reports r
few (request.ReportControl targets) now m = length-filter_map (control_at now m) targets
few other now m = omega arith

-- fewer are within the bound too
fewer : (bound : Option ℕ) (few many : ℕ) → few ≤ many → IsWithin bound many → IsWithin bound few
fewer None few many below within = tt
fewer (Some bound) few many below within = omega (arith, below, within)

none : {A : Type 0} (xs : List A) → length xs ≤ 0 → xs ≡ []
none [] below = refl
none (x ∷ xs) below = absurd (omega (arith, below))

-- the reports of a request that may wait keep the bound
pub keeps_bound : (asked : SpacePacket) (r : Request) (now : ℕ) (s t : Serving) → MayWait r s
    → queue_of t.counts t.waiting ≡ with_reports asked (reports_on r now s.memory) (queue_of s.counts s.waiting)
    → KeepsBound s t
keeps_bound asked r now s t (inl no_report) waits =
    let below = few r now s.memory in
    let no_more = none (reports_on r now s.memory) (omega (arith, below, no_report)) in
    let before = queue_of s.counts s.waiting in
    inl (ap Queue.waiting waits ∙ ap (λ (reports : List Report). (with_reports asked reports before).waiting) no_more)
keeps_bound asked r now s t (inr within) waits =
    let below = few r now s.memory in
    let many = waits_each asked (reports_on r now s.memory) (queue_of s.counts s.waiting) in
    let are = ap (λ (q : Queue). length q.waiting) waits in
    inr (fewer s.bound (length t.waiting) (length s.waiting + most_reports r) (omega (arith, are, many, below)) within)

-- a request that may wait does not pass the bound
pub not_beyond : (octets : List ℕ) (s : Serving) (asked : SpacePacket) (r : Request)
    → request_of octets ≡ Ok asked → IsRequest r → SpellsRequest asked r → MayWait r s → PassesBound octets s → ⊥
not_beyond octets s asked r asks is spells may p =
    let same : p.asked ≡ asked = ok_same p.asked asked (sym p.asks ∙ asks) in
    let spelled : SpellsRequest asked p.request =
    subst (λ (packet : SpacePacket). SpellsRequest packet p.request) same p.spelled in
    let one : r ≡ p.request = one_request asked r p.request is p.is_request spells spelled in
    p.beyond (subst (λ (q : Request). MayWait q s) one may)

-- the spelling of a packet that passes the tests of a request is read as that packet
read_again : (packet : SpacePacket) → packet_at (spelling packet) ≡ Ok (packet, []) → request_fault packet ≡ None
    → request_alone (spelling packet) ≡ Ok packet
read_again packet read passes =
    let is_alone : packet_alone (spelling packet) ≡ Ok packet = ap alone read in
    ap (λ (r : Result SpacePacket LineFault). r >>= (λ (p : SpacePacket). request_tested p (request_fault p))) is_alone
    ∙ ap (request_tested packet) passes

-- the octets of the telecommand that fields make
pub requests : (f : RequestFields) (fields : List InstructionFields) (packet : SpacePacket) (octets : List ℕ)
    → WrittenIsRead → RequestIsNotRefused → IsPacket packet
    → AsksFor f fields packet → octets ≡ spelling packet → Requests f fields octets
requests f fields packet octets read_law passes_law is asks octets_are =
    let read : packet_at (spelling packet) ≡ Ok (packet, []) =
    ap packet_at (sym (append-nil (spelling packet))) ∙ read_law packet [] is in
    let passes : request_fault packet ≡ None = passes_law packet asks.request asks.is_request asks.spelled in
    record {
      packet = packet;
      asks = asks;
      octets_are = octets_are;
      read_again = ap request_alone octets_are ∙ read_again packet read passes;
    }

-- what has a time is telemetry
has_time : (k : PacketType) (time : ℕ) → time_of k ≡ Some time → IsTelemetry k
has_time (Telecommand source) time is = absurd cc
has_time (Telemetry counter destination t) time is = tt

pub spelled_by_telemetry : (packet : SpacePacket) (report : Report) → SpellsReport packet report
    → IsTelemetry packet.kind
spelled_by_telemetry packet report spells = has_time packet.kind (moment_of report) spells.time
