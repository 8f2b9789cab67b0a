-- A packet spells one request, and that request is not refused.
use Rattle.std.proofs.Common.{◌≡◌, ℕ, ◌<◌, ◌≤◌, Bool, true, false, List, [], ◌∷◌, length, Some, None, Result, Err, refl, sym, ap, subst, ◌∙◌}
use Rattle.std.specs.List.{flat_map}
use Rattle.std.specs.Prelude.{if◌then◌else◌, MatchBool, MatchOption, IsOkUnless, is_some}
use Rattle.mm_packet.specs.Packet.{SpacePacket, IsTelecommand}
use Rattle.mm_packet.specs.Spelling.{type_bit}
use Rattle.mm_packet.specs.declared.header.PacketType.{PacketType}
use Rattle.mm_packet.specs.declared.header.PacketType.TheVariants.{Telecommand, Telemetry}
use Rattle.mm_st15.specs.declared.fault.Fault.{Fault}
use Rattle.mm_st15.specs.declared.fault.Fault.TheVariants.{NoMemory, CountMismatch}
use Rattle.mm_st15.specs.declared.request.Request.{Request}
use Rattle.mm_st15.specs.declared.request.Request.TheVariants as request
use Rattle.mm_st15.specs.declared.request_kind.RequestKind.{RequestKind}
use Rattle.mm_st15.specs.declared.request_kind.RequestKind.TheVariants as kind
use Rattle.mm_st15.specs.declared.service.TheConstants.{SERVICE}
use Rattle.mm_st15.specs.RequestKind.{Subtype, listed, bare, subtype_of, width_in, code_of, kind_at, width_of}
use Rattle.mm_st15.specs.Request.{Instructions, of_parts, count_in, octets_in, FitIn, kind_of, data_of, IsRequest, SpellsRequest, instructions_at, request_fault}
use Rattle.mm_st15.specs.Layout.{layout_width, octets_of}
use Rattle.mm_st15.proofs.CountLemmas.{counted_again}
use Rattle.mm_st15.proofs.LayoutLemmas.{IsReadable, entries_in, entries_in_again, length_of_entries, target_readable, report_type_readable, time_range_readable, time_limit_readable, configuration_readable, size_readable, channel_readable}

-- the instructions of a subtype can be read
abbrev Reads : Subtype → Type 0
Reads (listed number Entry layout) = IsReadable layout
Reads (bare number) = Unit {0}

reads : (k : RequestKind) → Reads (subtype_of k)
reads kind.EnableStorage = target_readable
reads k = first_of (search tt, search target_readable, search report_type_readable, search time_range_readable, search time_limit_readable, search configuration_readable, search size_readable, search channel_readable)

-- the instructions in some data
instructions_in : (s : Subtype) → Reads s → List ℕ → Instructions s
instructions_in (listed number Entry layout) is octets = entries_in is.of (layout_width layout) octets
instructions_in (bare number) is octets = tt

-- the data with these instructions
data_in : (s : Subtype) → Instructions s → List ℕ
data_in s instructions = if is_some (width_in s) then count_in s instructions ∷ octets_in s instructions else []

-- instructions that were written are read again
instructions_again : (s : Subtype) (is : Reads s) (instructions : Instructions s) → FitIn s instructions → instructions_in s is (data_in s instructions) ≡ instructions
unfolding instructions_in data_in
instructions_again (listed number Entry layout) is instructions fits = entries_in_again layout is instructions fits
instructions_again (bare number) is instructions fits = refl

-- instructions that can be spelled
abbrev IsIn : (s : Subtype) → Instructions s → Type 0
IsIn s instructions = MatchOption (width_in s) (Unit {0}) (λ _. (1 ≤ count_in s instructions) × (count_in s instructions < 256)) × FitIn s instructions

-- the data with these instructions are as long as their count says
counted_in : (s : Subtype) (is : Reads s) (instructions : Instructions s) → IsIn s instructions → is_some (instructions_at (width_in s) (data_in s instructions)) ≡ true
unfolding data_in
counted_in (listed number Entry layout) is instructions fits =
    let octets : List ℕ = flat_map (octets_of layout) instructions in
    rw (counted_again 1 (layout_width layout) (length instructions) octets fits.0.0 (length_of_entries layout is instructions fits.1)) refl
counted_in (bare number) is instructions fits = refl

-- the request of a kind with these instructions
request_with : (k : RequestKind) → Instructions (subtype_of k) → Request
request_with kind.EnableStorage instructions = request.EnableStorage instructions
request_with kind.DisableStorage instructions = request.DisableStorage instructions
request_with kind.AddReportTypes instructions = request.AddReportTypes instructions
request_with kind.DeleteReportTypes instructions = request.DeleteReportTypes instructions
request_with kind.ReportControl instructions = request.ReportControl instructions
request_with kind.StartRetrieval instructions = request.StartRetrieval instructions
request_with kind.DeleteContent instructions = request.DeleteContent instructions
request_with kind.SummariseContent instructions = request.SummariseContent instructions
request_with kind.AbortRetrieval instructions = request.AbortRetrieval instructions
request_with kind.ReportStatus none = request.ReportStatus
request_with kind.CreateStores instructions = request.CreateStores instructions
request_with kind.DeleteStores instructions = request.DeleteStores instructions
request_with kind.ReportConfiguration none = request.ReportConfiguration
request_with kind.ResizeStores instructions = request.ResizeStores instructions
request_with kind.ChangeToCircular instructions = request.ChangeToCircular instructions
request_with kind.ChangeToBounded instructions = request.ChangeToBounded instructions
request_with kind.ChangeChannel instructions = request.ChangeChannel instructions

-- what a request asks, and its instructions
parts_of : Request → (k : RequestKind) × Instructions (subtype_of k)
parts_of r = of_parts (λ k instructions. (k, instructions)) r

parts_again : (r : Request) → request_with (parts_of r).0 (parts_of r).1 ≡ r
unfolding parts_of request_with
parts_again (request.EnableStorage instructions) = refl
parts_again r = refl

-- what holds of each request that is made of its parts holds of each request
by_parts : (P : Request → Type 0) → ((k : RequestKind) (instructions : Instructions (subtype_of k)) → P (request_with k instructions)) → (r : Request) → P r
by_parts P made r = subst P (parts_again r) (made (parts_of r).0 (parts_of r).1)

-- the parts of a request that is made of them
kind_with : (k : RequestKind) (instructions : Instructions (subtype_of k)) → kind_of (request_with k instructions) ≡ k
unfolding request_with
kind_with kind.EnableStorage instructions = refl
kind_with k instructions = refl

data_with_parts : (k : RequestKind) (instructions : Instructions (subtype_of k)) → data_of (request_with k instructions) ≡ data_in (subtype_of k) instructions
unfolding request_with data_in
data_with_parts kind.EnableStorage instructions = refl
data_with_parts k instructions = refl

is_with : (k : RequestKind) (instructions : Instructions (subtype_of k)) → IsRequest (request_with k instructions) → IsIn (subtype_of k) instructions
unfolding request_with
is_with kind.EnableStorage instructions is = (is.count, is.instructions)
is_with k instructions is = (is.count, is.instructions)

-- the request of a kind with these data
request_from : RequestKind → List ℕ → Request
request_from k octets = request_with k (instructions_in (subtype_of k) (reads k) octets)

-- a request is known by its kind and its data
request_again : (r : Request) → IsRequest r → request_from (kind_of r) (data_of r) ≡ r
unfolding request_from
request_again = by_parts (λ r. IsRequest r → request_from (kind_of r) (data_of r) ≡ r) of_made
  where
    of_made : (k : RequestKind) (instructions : Instructions (subtype_of k)) → IsRequest (request_with k instructions) → request_from (kind_of (request_with k instructions)) (data_of (request_with k instructions)) ≡ request_with k instructions
    of_made k instructions is =
        let octets : List ℕ = data_in (subtype_of k) instructions in
        ap (λ (d : List ℕ). request_from (kind_of (request_with k instructions)) d) (data_with_parts k instructions)
        ∙ ap (λ (j : RequestKind). request_from j octets) (kind_with k instructions)
        ∙ ap (request_with k) (instructions_again (subtype_of k) (reads k) instructions (is_with k instructions is).1)

-- the data of a request are as long as their count says
data_counted : (r : Request) → IsRequest r → is_some (instructions_at (width_of (kind_of r)) (data_of r)) ≡ true
data_counted = by_parts (λ r. IsRequest r → is_some (instructions_at (width_of (kind_of r)) (data_of r)) ≡ true) of_made
  where
    of_made : (k : RequestKind) (instructions : Instructions (subtype_of k)) → IsRequest (request_with k instructions) → is_some (instructions_at (width_of (kind_of (request_with k instructions))) (data_of (request_with k instructions))) ≡ true
    of_made k instructions is =
        let octets : List ℕ = data_in (subtype_of k) instructions in
        ap (λ (d : List ℕ). is_some (instructions_at (width_of (kind_of (request_with k instructions))) d)) (data_with_parts k instructions)
        ∙ ap (λ (j : RequestKind). is_some (instructions_at (width_of j) octets)) (kind_with k instructions)
        ∙ counted_in (subtype_of k) (reads k) instructions (is_with k instructions is)

-- the subtype of a kind is that kind's alone
kind_again : (k : RequestKind) → kind_at (code_of k) ≡ Some k
kind_again kind.EnableStorage = refl
kind_again k = refl

-- the type bit is what says telecommand
telecommand_bit : (k : PacketType) → IsTelecommand k → type_bit k ≡ 1
telecommand_bit (Telecommand source) is = refl
telecommand_bit (Telemetry counter destination time) is = absurd is

-- a packet that spells a request is not refused
pub not_refused : (packet : SpacePacket) (r : Request) → IsRequest r → SpellsRequest packet r → request_fault packet ≡ None
not_refused packet r fits spells =
    let bit = telecommand_bit packet.kind spells.telecommand in
    let subtype : kind_at packet.header.subtype ≡ Some (kind_of r) = ap kind_at spells.subtype ∙ kind_again (kind_of r) in
    rw (bit, spells.service, subtype, spells.body, data_counted r fits) refl

-- a packet of a request's kind is refused exactly where its data are no instructions
pub refused_by_data : (packet : SpacePacket) (k : RequestKind) (result : Result Request Fault) → type_bit packet.kind ≡ 1 → packet.header.service ≡ SERVICE → kind_at packet.header.subtype ≡ Some k
    → MatchBool (is_some (instructions_at (width_of k) packet.body)) (IsOkUnless result NoMemory) (result ≡ Err CountMismatch) → MatchOption (request_fault packet) (IsOkUnless result NoMemory) (λ fault. result ≡ Err fault)
refused_by_data packet k result bit service found by = rw (bit, service, found) (by_test (is_some (instructions_at (width_of k) packet.body)) by)
  where
    by_test : (t : Bool) → MatchBool t (IsOkUnless result NoMemory) (result ≡ Err CountMismatch) → MatchOption (if t then None else Some CountMismatch) (IsOkUnless result NoMemory) (λ fault. result ≡ Err fault)
    by_test true is = is
    by_test false is = is

-- two requests with one packet are one
pub one_request : (packet : SpacePacket) (a b : Request) → IsRequest a → IsRequest b → SpellsRequest packet a → SpellsRequest packet b → a ≡ b
one_request packet a b a_fits b_fits a_spells b_spells =
    let kinds : Some (kind_of a) ≡ Some (kind_of b) = sym (kind_again (kind_of a)) ∙ ap kind_at (sym a_spells.subtype ∙ b_spells.subtype) ∙ kind_again (kind_of b) in
    let kind : kind_of a ≡ kind_of b = cc in
    let body : data_of a ≡ data_of b = sym a_spells.body ∙ b_spells.body in
    let from : request_from (kind_of a) (data_of a) ≡ request_from (kind_of b) (data_of b) = cc in
    sym (request_again a a_fits) ∙ from ∙ request_again b b_fits
