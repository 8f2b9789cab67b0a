-- Instructions out of their fields.
use Rattle.std.specs.Prelude.{◌==◌, if◌then◌else◌}
use Rattle.mm_service.specs.Words.{ℕ, List, map, Configuration, InstructionFields}
use Rattle.mm_st15.specs.declared.instruction.Target.{Target}
use Rattle.mm_st15.specs.declared.instruction.ReportType.{ReportType}
use Rattle.mm_st15.specs.declared.instruction.TimeRange.{TimeRange}
use Rattle.mm_st15.specs.declared.instruction.TimeLimit.{TimeLimit}
use Rattle.mm_st15.specs.declared.instruction.Size.{Size}
use Rattle.mm_st15.specs.declared.instruction.Channel.{Channel}

-- an octet of an identifier, where 0 stands for a space
abbrev pub spaced : ℕ → ℕ
spaced octet = if octet == 0 then 32 else octet

-- an identifier, as packets have it
abbrev pub padded : List ℕ → List ℕ
padded id = map spaced id

-- the instruction of a request that names a store alone
abbrev pub target_of : InstructionFields → Target
target_of f = record { id = padded f.id }

-- the instruction of a request on report types of the storage control
abbrev pub report_type_of : InstructionFields → ReportType
report_type_of f = record { id = padded f.id; apid = f.apid; service = f.service; subtype = f.subtype }

-- the instruction of a request for a retrieval: its times in order
abbrev pub time_range_of : InstructionFields → TimeRange
time_range_of f = record { id = padded f.id; from = f.from; to = f.to }

-- the instruction of a request to delete content: its last time is the limit
abbrev pub time_limit_of : InstructionFields → TimeLimit
time_limit_of f = record { id = padded f.id; limit = f.to }

-- the instruction of a request to create a store
abbrev pub configuration_of : InstructionFields → Configuration
configuration_of f = record { id = padded f.id; size = f.size; kind = f.kind; channel = f.channel }

-- the instruction of a request to resize a store
abbrev pub size_of : InstructionFields → Size
size_of f = record { id = padded f.id; size = f.size }

-- the instruction of a request to change a store's virtual channel
abbrev pub channel_of : InstructionFields → Channel
channel_of f = record { id = padded f.id; channel = f.channel }
