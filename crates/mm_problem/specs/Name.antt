-- The keys of a setup and the columns of a forecast.
use Rattle.std.specs.Prelude.{ℕ, List, codes}
use Rattle.mm_problem.specs.declared.fault.Name.{Name}
use Rattle.mm_problem.specs.declared.fault.Name.TheVariants as name

-- the characters of a name
abbrev pub text_of : Name → List ℕ
text_of name.Store = codes "store"
text_of name.Route = codes "route"
text_of name.Limit = codes "limit"
text_of name.Stores = codes "stores"
text_of name.Routes = codes "routes"
text_of name.Limits = codes "limits"
text_of name.Unknown = codes "unknown"
text_of name.Repeated = codes "repeated"
text_of name.Id = codes "id"
text_of name.Size = codes "size"
text_of name.Type = codes "type"
text_of name.Channel = codes "channel"
text_of name.Start = codes "start"
text_of name.Apid = codes "apid"
text_of name.Service = codes "service"
text_of name.Subtype = codes "subtype"
text_of name.Blocks = codes "blocks"
text_of name.Steps = codes "steps"
text_of name.Window = codes "window"
text_of name.Arrivals = codes "arrivals"
