-- The instructions of requests and the entries of reports, in words and numbers.
use Rattle.std.specs.Prelude.{ℕ, ◌==◌, List, ◌++◌, codes, decimal, if◌then◌else◌}
use Rattle.hex.specs.Hex.{encode_upper}
use Rattle.mm_base.specs.Id.{is_id, id_text}
use Rattle.mm_st15.specs.declared.instruction.Target.{Target}
use Rattle.mm_st15.specs.declared.instruction.ReportType.{ReportType}
use Rattle.mm_st15.specs.declared.instruction.TimeRange.{TimeRange}
use Rattle.mm_st15.specs.declared.instruction.TimeLimit.{TimeLimit}
use Rattle.mm_st15.specs.declared.instruction.Configuration.{Configuration}
use Rattle.mm_st15.specs.declared.instruction.Size.{Size}
use Rattle.mm_st15.specs.declared.instruction.Channel.{Channel}
use Rattle.mm_st15.specs.declared.report_entry.Row.{Row}
use Rattle.mm_st15.specs.declared.report_entry.Summary.{Summary}
use Rattle.mm_st15.specs.declared.report_entry.Status.{Status}

-- a word and its number
unfoldable pub named : List ℕ → ℕ → List ℕ
named word number = word ++ decimal number

-- the text of an identifier, or the hexadecimal digits of octets that are none
unfoldable pub id_words : List ℕ → List ℕ
id_words octets = if is_id octets then id_text octets else encode_upper octets

-- the type of a store, or the number of a type that is not allowed
unfoldable pub type_words : ℕ → List ℕ
type_words kind = if kind == 0 then codes " type circular" else if kind == 1 then codes " type bounded" else named (codes " type ") kind

-- whether storage is on, or the number of a status that is not allowed
unfoldable pub storage_words : ℕ → List ℕ
storage_words status = if status == 0 then codes " storage off" else if status == 1 then codes " storage on" else named (codes " storage ") status

-- whether a retrieval is on
unfoldable pub retrieval_words : ℕ → List ℕ
retrieval_words status = if status == 0 then codes " retrieval off" else if status == 1 then codes " retrieval on" else named (codes " retrieval ") status

-- a report type: the numbers of telemetry
abbrev pub row_words : Row → List ℕ
row_words entry = named (codes "apid ") entry.apid ++ named (codes " service ") entry.service ++ named (codes " subtype ") entry.subtype

abbrev pub target_words : Target → List ℕ
target_words entry = id_words entry.id

abbrev pub report_type_words : ReportType → List ℕ
report_type_words entry =
    id_words entry.id ++ named (codes " apid ") entry.apid ++ named (codes " service ") entry.service ++ named (codes " subtype ") entry.subtype

abbrev pub time_range_words : TimeRange → List ℕ
time_range_words entry = id_words entry.id ++ named (codes " from ") entry.from ++ named (codes " to ") entry.to

abbrev pub time_limit_words : TimeLimit → List ℕ
time_limit_words entry = id_words entry.id ++ named (codes " up to ") entry.limit

abbrev pub configuration_words : Configuration → List ℕ
configuration_words entry = id_words entry.id ++ named (codes " size ") entry.size ++ type_words entry.kind ++ named (codes " channel ") entry.channel

abbrev pub size_words : Size → List ℕ
size_words entry = id_words entry.id ++ named (codes " size ") entry.size

abbrev pub channel_words : Channel → List ℕ
channel_words entry = id_words entry.id ++ named (codes " channel ") entry.channel

abbrev pub summary_words : Summary → List ℕ
summary_words entry =
    id_words entry.id ++ named (codes " oldest ") entry.oldest ++ named (codes " newest ") entry.newest ++ named (codes " held ") entry.held

abbrev pub status_words : Status → List ℕ
status_words entry = id_words entry.id ++ storage_words entry.storage ++ retrieval_words entry.retrieval
