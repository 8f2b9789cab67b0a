use Rattle.std.proofs.Common.{◌≡◌, ℕ, ◌<◌, ◌++◌}
use Rattle.std.specs.List.{flat_map, range_with_len}
use Rattle.mm_base.specs.Id.{IsIdField}
use Rattle.mm_problem.specs.Dumping.{row}
use Rattle.mm_rest.specs.Forecasts.{id_cell}
use Rattle.mm_rest.proofs.forecast.push_ids.Given as goal

abbrev pub invariant-loop-store : goal.invariant-loop-store
invariant-loop-store l = record {
  cells : l.text.items ≡ l.initial.text.items ++ flat_map (id_cell l.problem) (range_with_len 0 l.store);
  fields : (s : ℕ) → s < l.store → IsIdField (row l.problem s).id;
}
