use Rattle.std.proofs.Common.{◌≡◌, [], map, drop, vec_len}
use Rattle.toml.specs.View.{view}
use Rattle.mm_problem.specs.Tables.{row_after, rows_in}
use Rattle.mm_problem.proofs.rows.rows_of.Given as goal

abbrev pub invariant-loop-value : goal.invariant-loop-value
invariant-loop-value g l = record {
  count : vec_len l.rows ≡ l.value-index;
  left : rows_in (row_after g.R.Row.row_at (g.R.Row.new_row l.stores)) [] (map view l.values) ≡ rows_in (row_after g.R.Row.row_at (g.R.Row.new_row l.stores)) l.rows.items (map view (drop l.value-index l.values));
}
