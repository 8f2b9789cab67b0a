use Rattle.std.proofs.Common.{◌≡◌, ◌+◌, ◌-◌}
use Rattle.csv.specs.Records.{fields_of}
use Rattle.mm_problem.specs.Forecast.{cells_from, amounts_in}
use Rattle.mm_problem.proofs.steps.amounts_of.Given as goal

abbrev pub invariant-loop-i : goal.invariant-loop-i
invariant-loop-i l =
    amounts_in l.name l.number l.amounts.items (l.i + 1) (cells_from (fields_of l.row) l.i (l.first + l.count - l.i))
    ≡ amounts_in l.name l.number l.initial.amounts.items (l.first + 1) (cells_from (fields_of l.row) l.first l.count)
