-- A packet spells one report, and that report is not refused.
use Rattle.std.proofs.Common.{◌≡◌, ℕ, ◌*◌, ◌<◌, ◌≤◌, ◌^◌, true, List, ◌∷◌, ◌++◌, length, take, drop, Some, None, refl, sym, ap, ◌∙◌, arith, append_assoc, length-append, eq-eqb}
use Rattle.std.specs.List.{flat_map, AllByRecursion}
use Rattle.std.specs.Int.{w16, to_be_bytes, from_be_bytes}
use Rattle.std.proofs.lemmas.List.{drop_at}
use Rattle.std.proofs.lemmas.Nat.{from_be_bytes-to_be_bytes_2}
use Rattle.mm_packet.specs.Packet.{SpacePacket, time_of}
use Rattle.mm_packet.specs.Spelling.{type_bit}
use Rattle.mm_packet.specs.declared.header.PacketType.{PacketType}
use Rattle.mm_packet.specs.declared.header.PacketType.TheVariants.{Telecommand, Telemetry}
use Rattle.mm_base.proofs.NumberFields.{number16_again}
use Rattle.mm_st15.specs.declared.instruction.Configuration.{Configuration}
use Rattle.mm_st15.specs.declared.report_entry.Row.{Row}
use Rattle.mm_st15.specs.declared.report_entry.Summary.{Summary}
use Rattle.mm_st15.specs.declared.report_entry.Status.{Status}
use Rattle.mm_st15.specs.declared.report.Report.{Report}
use Rattle.mm_st15.specs.declared.report.Report.TheVariants as report
use Rattle.mm_st15.specs.declared.report_kind.ReportKind.{ReportKind}
use Rattle.mm_st15.specs.declared.report_kind.ReportKind.TheVariants as kind
use Rattle.mm_st15.specs.ReportKind.{code_of, kind_at}
use Rattle.mm_st15.specs.Report.{kind_of, moment_of, data_of, IsReport, SpellsReport, is_counted, report_fault}
use Rattle.mm_st15.specs.Counted.{counted_at}
use Rattle.mm_st15.specs.Layout.{Layout, layout_width, octets_of, Fits, row_layout, summary_layout, status_layout, configuration_layout}
use Rattle.mm_st15.proofs.CountLemmas.{counted_again, rows_counted}
use Rattle.mm_st15.proofs.LayoutLemmas.{behind_id, IsReadable, entries_from, entries_again, entries_in, entries_in_again, length_of_entries, row_readable, summary_readable, status_readable, configuration_readable}

-- the rows after their count
rows_in : List ℕ → List Row
rows_in octets = entries_from row_readable.of 4 (from_be_bytes w16 (take 2 octets)) (drop 2 octets)

-- a report of the storage control, of an identifier and what follows it
control_with : ℕ → List ℕ → List ℕ → Report
control_with moment id others = report.Control moment id (rows_in others)

-- the report of a kind with this moment and these data
report_from : ReportKind → ℕ → List ℕ → Report
report_from kind.Control moment octets = control_with moment (take 8 octets) (drop 8 octets)
report_from kind.Summaries moment octets = report.Summaries moment (entries_in summary_readable.of 28 octets)
report_from kind.Statuses moment octets = report.Statuses moment (entries_in status_readable.of 10 octets)
report_from kind.Configurations moment octets = report.Configurations moment (entries_in configuration_readable.of 14 octets)

-- the rows are read again after their count
rows_again : (rows : List Row) → length rows < 2 ^ 16 → AllByRecursion (Fits row_layout) rows → rows_in (to_be_bytes w16 (length rows) ++ flat_map (octets_of row_layout) rows) ≡ rows
unfolding rows_in
rows_again rows few fits = rw (from_be_bytes-to_be_bytes_2 (length rows) few) (entries_again row_layout row_readable rows fits)

-- a report is known by its kind, its moment and its data
report_again : (r : Report) → IsReport r → report_from (kind_of r) (moment_of r) (data_of r) ≡ r
unfolding report_from control_with
report_again (report.Control moment id rows) fits =
    let others : List ℕ = to_be_bytes w16 (length rows) ++ flat_map (octets_of row_layout) rows in
    let regrouped : data_of (report.Control moment id rows) ≡ id ++ others = append_assoc id (to_be_bytes w16 (length rows)) (flat_map (octets_of row_layout) rows) in
    let few : length rows < 2 ^ 16 = omega (arith, fits.count) in
    ap (report_from kind.Control moment) regrouped ∙ behind_id (control_with moment) id others fits.entries.0 ∙ ap (λ (xs : List Row). report.Control moment id xs) (rows_again rows few fits.entries.1)
report_again (report.Summaries moment entries) fits = ap (λ (xs : List Summary). report.Summaries moment xs) (entries_in_again summary_layout summary_readable entries fits.entries)
report_again (report.Statuses moment entries) fits = ap (λ (xs : List Status). report.Statuses moment xs) (entries_in_again status_layout status_readable entries fits.entries)
report_again (report.Configurations moment entries) fits = ap (λ (xs : List Configuration). report.Configurations moment xs) (entries_in_again configuration_layout configuration_readable entries fits.entries)

-- entries of a layout are counted
entries_counted : {Entry : Type 0} (layout : Layout Entry) → IsReadable layout → (entries : List Entry) → AllByRecursion (Fits layout) entries
    → counted_at 0 (layout_width layout) (length entries ∷ flat_map (octets_of layout) entries) ≡ Some (length entries, flat_map (octets_of layout) entries)
entries_counted layout is entries fits = counted_again 0 (layout_width layout) (length entries) (flat_map (octets_of layout) entries) (omega arith) (length_of_entries layout is entries fits)

-- the data of a report are as long as their count says
counted : (r : Report) → IsReport r → is_counted (kind_of r) (data_of r) ≡ true
counted (report.Control moment id rows) fits =
    let octets : List ℕ = flat_map (octets_of row_layout) rows in
    let others : List ℕ = to_be_bytes w16 (length rows) ++ octets in
    let regrouped : data_of (report.Control moment id rows) ≡ id ++ others = append_assoc id (to_be_bytes w16 (length rows)) octets in
    let few : length rows < 2 ^ 16 = omega (arith, fits.count) in
    let long : 8 ≤ length (id ++ others) = omega (arith, length-append id others, fits.entries.0) in
    let len : length octets ≡ length rows * 4 = length_of_entries row_layout row_readable rows fits.entries.1 in
    ap (is_counted kind.Control) regrouped
    ∙ rows_counted (id ++ others) others (length rows) octets long (sym (drop_at id others 8 fits.entries.0)) (number16_again (length rows) octets few)
    ∙ eq-eqb (length octets) (length rows * 4) len
counted (report.Summaries moment entries) fits = rw (entries_counted summary_layout summary_readable entries fits.entries) refl
counted (report.Statuses moment entries) fits = rw (entries_counted status_layout status_readable entries fits.entries) refl
counted (report.Configurations moment entries) fits = rw (entries_counted configuration_layout configuration_readable entries fits.entries) refl

-- the subtype of a kind is that kind's alone
kind_again : (k : ReportKind) → kind_at (code_of k) ≡ Some k
kind_again kind.Control = refl
kind_again k = refl

-- the type bit says telemetry where there is a time
telemetry_bit : (k : PacketType) (time : ℕ) → time_of k ≡ Some time → type_bit k ≡ 0
telemetry_bit (Telecommand source) time is = absurd cc
telemetry_bit (Telemetry counter destination t) time is = refl

-- a packet that spells a report is not refused
pub not_refused : (packet : SpacePacket) (r : Report) → IsReport r → SpellsReport packet r → report_fault packet ≡ None
not_refused packet r fits spells =
    let bit = telemetry_bit packet.kind (moment_of r) spells.time in
    let subtype : kind_at packet.header.subtype ≡ Some (kind_of r) = ap kind_at spells.subtype ∙ kind_again (kind_of r) in
    rw (bit, spells.service, subtype, spells.body, counted r fits) refl

-- two reports with one packet are one
pub one_report : (packet : SpacePacket) (a b : Report) → IsReport a → IsReport b → SpellsReport packet a → SpellsReport packet b → a ≡ b
one_report packet a b a_fits b_fits a_spells b_spells =
    let kinds : Some (kind_of a) ≡ Some (kind_of b) = sym (kind_again (kind_of a)) ∙ ap kind_at (sym a_spells.subtype ∙ b_spells.subtype) ∙ kind_again (kind_of b) in
    let kind : kind_of a ≡ kind_of b = cc in
    let moments : Some (moment_of a) ≡ Some (moment_of b) = sym a_spells.time ∙ b_spells.time in
    let moment : moment_of a ≡ moment_of b = cc in
    let body : data_of a ≡ data_of b = sym a_spells.body ∙ b_spells.body in
    let from : report_from (kind_of a) (moment_of a) (data_of a) ≡ report_from (kind_of b) (moment_of b) (data_of b) = cc in
    sym (report_again a a_fits) ∙ from ∙ report_again b b_fits
