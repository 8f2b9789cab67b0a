-- The codes by which refusals, names and places cross to C.
use Rattle.std.specs.Prelude.{ℕ}
use Rattle.mm_problem.specs.declared.fault.Name.{Name}
use Rattle.mm_problem.specs.declared.fault.Name.TheVariants as name
use Rattle.mm_told.specs.declared.codes.Place.{Place}
use Rattle.mm_told.specs.declared.codes.Place.TheVariants as place

-- the code of a place
abbrev pub code_of_place : Place → ℕ
code_of_place place.Whole = 0
code_of_place place.Line = 1
code_of_place place.Row = 2
code_of_place place.Cell = 3
code_of_place place.Key = 4
code_of_place place.Number = 5

-- the code of a name
abbrev pub code_of_name : Name → ℕ
code_of_name name.Store = 0
code_of_name name.Route = 1
code_of_name name.Limit = 2
code_of_name name.Stores = 3
code_of_name name.Routes = 4
code_of_name name.Limits = 5
code_of_name name.Unknown = 6
code_of_name name.Repeated = 7
code_of_name name.Id = 8
code_of_name name.Size = 9
code_of_name name.Type = 10
code_of_name name.Channel = 11
code_of_name name.Start = 12
code_of_name name.Apid = 13
code_of_name name.Service = 14
code_of_name name.Subtype = 15
code_of_name name.Blocks = 16
code_of_name name.Steps = 17
code_of_name name.Window = 18
code_of_name name.Arrivals = 19
