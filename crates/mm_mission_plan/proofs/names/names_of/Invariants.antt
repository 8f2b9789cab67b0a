use Rattle.std.proofs.Common.{◌≡◌, take, string_bytes}
use Rattle.std.specs.Prelude.{map}
use Rattle.mm_mission_plan.specs.Names.{name_of}
use Rattle.mm_mission_plan.proofs.names.names_of.Given as goal

abbrev pub invariant-rows : goal.invariant-rows
invariant-rows l = map string_bytes l.names.items ≡ map (name_of l.passes) (take l.row-index l.rows)
