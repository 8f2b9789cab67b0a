-- The reports that answer a request, by the memory that it finds. A request that is answered by reports changes
-- nothing.
use Rattle.std.specs.Prelude.{if◌then◌else◌, ◌∷◌}
use Rattle.mm_memory.specs.Words.{ℕ, Bool, List, [], length, map, filter, filter_map, Option, None, is_some, RouteRow}
use Rattle.mm_memory.specs.Words.{oldest, newest, is_to, Configuration, Target, Row, Request, Held, is_id, option_map}
use Rattle.mm_base.specs.Kind.{code_of}
use Rattle.mm_st15.specs.declared.report.Report.{Report}
use Rattle.mm_st15.specs.declared.report_entry.Status.{Status}
use Rattle.mm_st15.specs.declared.report_entry.Summary.{Summary}
use Rattle.mm_memory.specs.Holdings.{Holdings, store_of}
use Rattle.mm_st15.specs.declared.report.Report.TheVariants as report
use Rattle.mm_st15.specs.declared.request.Request.TheVariants as request

-- a switch as a status: 0 off, 1 on
abbrev pub status_of : Bool → ℕ
status_of on = if on then 1 else 0

-- a route without its store
abbrev pub type_of : RouteRow → Row
type_of r = record { apid = r.apid; service = r.service; subtype = r.subtype }

-- the report types that go into a store, in the table's order
abbrev pub types_to : List ℕ → List RouteRow → List Row
types_to id routes = map type_of (filter (is_to id) routes)

-- what a store holds, in short
abbrev pub summary_of : Held → Summary
summary_of h =
    record {
      id = h.id;
      oldest = oldest h.state.store.content;
      newest = newest h.state.store.content;
      held = length
          h.state.store.content;
    }

-- a store's two statuses
abbrev pub statuses_of : Held → Status
statuses_of h =
    record { id = h.id; storage = status_of h.state.storage; retrieval = status_of (is_some h.state.retrieval) }

-- a store's configuration
abbrev pub configuration_of : Held → Configuration
configuration_of h =
    record { id = h.id; size = h.state.store.size; kind = code_of h.state.store.kind; channel = h.channel }

-- the store that an instruction asks about, where it is accepted: the octets are an identifier, and a store has it
abbrev pub asked_about : List ℕ → Holdings → Option Held
asked_about octets m = if is_id octets then store_of octets m.stores else None

-- the summary for an instruction, where it is accepted
abbrev pub summary_at : Holdings → Target → Option Summary
summary_at m t = option_map summary_of (asked_about t.id m)

-- the report on the storage control for an instruction, where it is accepted
abbrev pub control_at : ℕ → Holdings → Target → Option Report
control_at now m t = option_map (λ h. report.Control now h.id (types_to h.id m.routes)) (asked_about t.id m)

-- the reports on a request at this moment
abbrev pub reports_on : Request → ℕ → Holdings → List Report
reports_on (request.ReportControl targets) now m = filter_map (control_at now m) targets
reports_on (request.SummariseContent targets) now m = report.Summaries now (filter_map (summary_at m) targets) ∷ []
reports_on request.ReportStatus now m = report.Statuses now (map statuses_of m.stores) ∷ []
reports_on request.ReportConfiguration now m = report.Configurations now (map configuration_of m.stores) ∷ []
reports_on other now m = []
