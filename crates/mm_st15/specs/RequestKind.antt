-- The table of requests: the subtype of each, and the layout of its instructions.
use Rattle.std.specs.Prelude.{ℕ, ◌==◌, List, [], ◌∷◌, find, Option, Some, None}
use Rattle.mm_st15.specs.declared.instruction.Target.{Target}
use Rattle.mm_st15.specs.declared.instruction.ReportType.{ReportType}
use Rattle.mm_st15.specs.declared.instruction.TimeRange.{TimeRange}
use Rattle.mm_st15.specs.declared.instruction.TimeLimit.{TimeLimit}
use Rattle.mm_st15.specs.declared.instruction.Configuration.{Configuration}
use Rattle.mm_st15.specs.declared.instruction.Size.{Size}
use Rattle.mm_st15.specs.declared.instruction.Channel.{Channel}
use Rattle.mm_st15.specs.declared.request_kind.RequestKind.{RequestKind}
use Rattle.mm_st15.specs.declared.request_kind.RequestKind.TheVariants.{EnableStorage, DisableStorage, AddReportTypes, DeleteReportTypes, ReportControl, StartRetrieval, DeleteContent, SummariseContent, AbortRetrieval, ReportStatus, CreateStores, DeleteStores, ReportConfiguration, ResizeStores, ChangeToCircular, ChangeToBounded, ChangeChannel}
use Rattle.mm_st15.specs.Layout.{Layout, layout_width, target_layout, report_type_layout, time_range_layout, time_limit_layout, configuration_layout, size_layout, channel_layout}

-- a subtype: its number, and the layout of its instructions, where it has data
pub data Subtype : Type 1 where
  listed : ℕ → (Entry : Type 0) → Layout Entry → Subtype
  bare : ℕ → Subtype

-- the table
abbrev pub subtype_of : RequestKind → Subtype
subtype_of EnableStorage = listed 1 Target target_layout
subtype_of DisableStorage = listed 2 Target target_layout
subtype_of AddReportTypes = listed 3 ReportType report_type_layout
subtype_of DeleteReportTypes = listed 4 ReportType report_type_layout
subtype_of ReportControl = listed 5 Target target_layout
subtype_of StartRetrieval = listed 9 TimeRange time_range_layout
subtype_of DeleteContent = listed 11 TimeLimit time_limit_layout
subtype_of SummariseContent = listed 12 Target target_layout
subtype_of AbortRetrieval = listed 17 Target target_layout
subtype_of ReportStatus = bare 18
subtype_of CreateStores = listed 20 Configuration configuration_layout
subtype_of DeleteStores = listed 21 Target target_layout
subtype_of ReportConfiguration = bare 22
subtype_of ResizeStores = listed 25 Size size_layout
subtype_of ChangeToCircular = listed 26 Target target_layout
subtype_of ChangeToBounded = listed 27 Target target_layout
subtype_of ChangeChannel = listed 28 Channel channel_layout

-- the kinds of requests
abbrev pub kinds : List RequestKind
kinds = EnableStorage ∷ DisableStorage ∷ AddReportTypes ∷ DeleteReportTypes ∷ ReportControl ∷ StartRetrieval ∷ DeleteContent ∷ SummariseContent ∷ AbortRetrieval ∷ ReportStatus ∷ CreateStores ∷ DeleteStores ∷ ReportConfiguration ∷ ResizeStores ∷ ChangeToCircular ∷ ChangeToBounded ∷ ChangeChannel ∷ []

-- the number of a subtype
abbrev pub number_of : Subtype → ℕ
number_of (listed number Entry layout) = number
number_of (bare number) = number

-- the octets of an instruction; none where there are no data
abbrev pub width_in : Subtype → Option ℕ
width_in (listed number Entry layout) = Some (layout_width layout)
width_in (bare number) = None

-- the subtype of a request
abbrev pub code_of : RequestKind → ℕ
code_of kind = number_of (subtype_of kind)

-- the request with a subtype
abbrev pub kind_at : ℕ → Option RequestKind
kind_at code = find (λ kind. code_of kind == code) kinds

-- the octets of one instruction; none where the request has no data
abbrev pub width_of : RequestKind → Option ℕ
width_of kind = width_in (subtype_of kind)
