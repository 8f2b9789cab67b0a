-- The layout of each instruction and of each entry of a report: its fields one after another, each number big-endian.
use Rattle.std.specs.Prelude.{◌≡◌, ℕ, ◌+◌, ◌<◌, ◌^◌, List, [], ◌∷◌, ◌++◌, length}
use Rattle.std.specs.Int.{w16, w32, w64, to_be_bytes}
use Rattle.mm_st15.specs.declared.instruction.Target.{Target}
use Rattle.mm_st15.specs.declared.instruction.ReportType.{ReportType}
use Rattle.mm_st15.specs.declared.instruction.TimeRange.{TimeRange}
use Rattle.mm_st15.specs.declared.instruction.TimeLimit.{TimeLimit}
use Rattle.mm_st15.specs.declared.instruction.Configuration.{Configuration}
use Rattle.mm_st15.specs.declared.instruction.Size.{Size}
use Rattle.mm_st15.specs.declared.instruction.Channel.{Channel}
use Rattle.mm_st15.specs.declared.report_entry.Row.{Row}
use Rattle.mm_st15.specs.declared.report_entry.Summary.{Summary}
use Rattle.mm_st15.specs.declared.report_entry.Status.{Status}

-- a field: a store's identifier, or a number of 8, 16, 32 or 64 bits
pub data Field : Type 0 where
  identifier : Field
  number8 : Field
  number16 : Field
  number32 : Field
  number64 : Field

-- what a field holds: the octets of an identifier, or a number
abbrev pub Held : Field → Type 0
Held identifier = List ℕ
Held _ = ℕ

-- how many octets a field has
abbrev pub field_width : Field → ℕ
field_width identifier = 8
field_width number8 = 1
field_width number16 = 2
field_width number32 = 4
field_width number64 = 8

-- the octets of a field
abbrev pub field_octets : (f : Field) → Held f → List ℕ
field_octets identifier octets = octets
field_octets number8 n = n ∷ []
field_octets number16 n = to_be_bytes w16 n
field_octets number32 n = to_be_bytes w32 n
field_octets number64 n = to_be_bytes w64 n

-- an identifier has eight octets, and a number fits the bits of its field
abbrev pub FitsField : (f : Field) → Held f → Type 0
FitsField identifier octets = length octets ≡ 8
FitsField number8 n = n < 2 ^ 8
FitsField number16 n = n < 2 ^ 16
FitsField number32 n = n < 2 ^ 32
FitsField number64 n = n < 2 ^ 64

-- what each of the fields holds
abbrev pub AllHeld : List Field → Type 0
AllHeld [] = Unit {0}
AllHeld (f ∷ fields) = Held f × AllHeld fields

-- how many octets the fields have
abbrev pub fields_width : List Field → ℕ
fields_width [] = 0
fields_width (f ∷ fields) = field_width f + fields_width fields

-- the octets before, and then those of the fields, one after another
abbrev pub with_fields : (before : List ℕ) (fields : List Field) → AllHeld fields → List ℕ
with_fields before [] held = before
with_fields before (f ∷ fields) held = with_fields (before ++ field_octets f held.0) fields held.1

-- each field fits
abbrev pub FitFields : (fields : List Field) → AllHeld fields → Type 0
FitFields [] held = Unit {0}
FitFields (f ∷ fields) held = FitsField f held.0 × FitFields fields held.1

-- a layout of entries: the fields, and what they hold of an entry
pub record Layout (Entry : Type 0) : Type 0 where
  pub fields : List Field
  pub held : Entry → AllHeld fields

module _ {Entry : Type 0} (layout : Layout Entry) where
  -- how many octets an entry has
  abbrev pub layout_width : ℕ
  layout_width = fields_width layout.fields

  -- the octets of an entry
  abbrev pub octets_of : Entry → List ℕ
  octets_of entry = with_fields [] layout.fields (layout.held entry)

  -- which entries fit
  abbrev pub Fits : Entry → Type 0
  Fits entry = FitFields layout.fields (layout.held entry)

abbrev pub target_layout : Layout Target
target_layout = record { fields = identifier ∷ []; held = λ e. (e.id, tt) }

abbrev pub report_type_layout : Layout ReportType
report_type_layout = record {
  fields = identifier ∷ number16 ∷ number8 ∷ number8 ∷ [];
  held = λ e. (e.id, (e.apid, (e.service, (e.subtype, tt))));
}

abbrev pub time_range_layout : Layout TimeRange
time_range_layout = record { fields = identifier ∷ number64 ∷ number64 ∷ []; held = λ e. (e.id, (e.from, (e.to, tt))) }

abbrev pub time_limit_layout : Layout TimeLimit
time_limit_layout = record { fields = identifier ∷ number64 ∷ []; held = λ e. (e.id, (e.limit, tt)) }

abbrev pub configuration_layout : Layout Configuration
configuration_layout = record {
  fields = identifier ∷ number32 ∷ number8 ∷ number8 ∷ [];
  held = λ e. (e.id, (e.size, (e.kind, (e.channel, tt))));
}

abbrev pub size_layout : Layout Size
size_layout = record { fields = identifier ∷ number32 ∷ []; held = λ e. (e.id, (e.size, tt)) }

abbrev pub channel_layout : Layout Channel
channel_layout = record { fields = identifier ∷ number8 ∷ []; held = λ e. (e.id, (e.channel, tt)) }

abbrev pub row_layout : Layout Row
row_layout = record { fields = number16 ∷ number8 ∷ number8 ∷ []; held = λ e. (e.apid, (e.service, (e.subtype, tt))) }

abbrev pub summary_layout : Layout Summary
summary_layout = record {
  fields = identifier ∷ number64 ∷ number64 ∷ number32 ∷ [];
  held = λ e. (e.id, (e.oldest, (e.newest, (e.held, tt))));
}

abbrev pub status_layout : Layout Status
status_layout =
    record { fields = identifier ∷ number8 ∷ number8 ∷ []; held = λ e. (e.id, (e.storage, (e.retrieval, tt))) }
