use Rattle.std.proofs.Common.{◌≡◌, take}
use Rattle.std.specs.Prelude.{All}
use Rattle.mm_problem.specs.Setup.{HasId}
use Rattle.mm_mission_plan.proofs.texts.rows_of.Given as goal

abbrev pub invariant-stores : goal.invariant-stores
invariant-stores l = record {
  rows : l.rows.items ≡ take l.store l.problem.rows;
  ids : All HasId l.rows.items;
}
