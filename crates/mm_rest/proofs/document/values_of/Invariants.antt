use Rattle.std.proofs.Common.{◌≡◌, map, take}
use Rattle.std.specs.List.{All}
use Rattle.toml.specs.View.{view}
use Rattle.mm_rest.proofs.document.values_of.Given as goal

abbrev pub invariant-loop-row : goal.invariant-loop-row
invariant-loop-row g l = record {
  values : map view l.values.items ≡ map g.R.Tabled.data_of (take l.row-index l.rows);
  whole : All g.R.Tabled.IsWhole (take l.row-index l.rows);
}
