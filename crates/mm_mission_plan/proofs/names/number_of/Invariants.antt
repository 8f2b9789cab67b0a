use Rattle.std.proofs.Common.{◌≡◌, take}
use Rattle.std.specs.List.{count_by, enumerate_from}
use Rattle.mm_mission_plan.specs.Names.{is_counted}
use Rattle.mm_mission_plan.proofs.names.number_of.Given as goal

abbrev pub invariant-passes : goal.invariant-passes
invariant-passes l = l.number ≡ count_by (is_counted l.row l.pass) (take l.other_row (enumerate_from 0 l.passes))
