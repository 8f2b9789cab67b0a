-- The fields of the entries of reports.
use Rattle.std.specs.Prelude.{◌∷◌, ◌++◌}
use Rattle.mm_service.specs.Words.{ℕ, List, [], length, drop, Configuration, EntryFields}
use Rattle.mm_st15.specs.declared.report_entry.Row.{Row}
use Rattle.mm_st15.specs.declared.report_entry.Summary.{Summary}
use Rattle.mm_st15.specs.declared.report_entry.Status.{Status}

-- the octets where there is no identifier
abbrev pub no_id : List ℕ
no_id = 0 ∷ 0 ∷ 0 ∷ 0 ∷ 0 ∷ 0 ∷ 0 ∷ 0 ∷ []

-- an entry with no fields
abbrev pub no_entry : EntryFields
no_entry = record {
  id = no_id;
  oldest = 0;
  newest = 0;
  held = 0;
  size = 0;
  apid = 0;
  service = 0;
  subtype = 0;
  storage = 0;
  retrieval = 0;
  kind = 0;
  channel = 0;
}

-- a row of the storage control, as fields
abbrev pub row_told : Row → EntryFields
row_told e = record no_entry { apid = e.apid; service = e.service; subtype = e.subtype }

-- a summary, as fields
abbrev pub summary_told : Summary → EntryFields
summary_told e = record no_entry { id = e.id; oldest = e.oldest; newest = e.newest; held = e.held }

-- a status, as fields
abbrev pub status_told : Status → EntryFields
status_told e = record no_entry { id = e.id; storage = e.storage; retrieval = e.retrieval }

-- a configuration, as fields
abbrev pub configuration_told : Configuration → EntryFields
configuration_told e = record no_entry { id = e.id; size = e.size; kind = e.kind; channel = e.channel }

-- the buffer with these entries at its head, and else as it was
abbrev pub over : List EntryFields → List EntryFields → List EntryFields
over entries buffer = entries ++ drop (length entries) buffer
