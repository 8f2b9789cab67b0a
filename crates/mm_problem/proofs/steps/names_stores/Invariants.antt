use Rattle.std.proofs.Common.{◌≡◌, ◌+◌, map, drop}
use Rattle.csv.specs.Records.{fields_of}
use Rattle.mm_problem.specs.Forecast.{begins_with}
use Rattle.mm_base.specs.Id.{id_text}
use Rattle.mm_problem.proofs.steps.names_stores.Given as goal

abbrev pub invariant-loop-i : goal.invariant-loop-i
invariant-loop-i l = begins_with (drop (l.i + 2) (fields_of l.row)) (map (λ r. id_text r.id) (drop l.i l.stores)) ≡ begins_with (drop 2 (fields_of l.row)) (map (λ r. id_text r.id) l.stores)
