use Rattle.std.proofs.Common.{◌≡◌, [], drop, option_map}
use Rattle.csv.specs.Records.{fields_of, partial_of}
use Rattle.toml.specs.View.{table_view}
use Rattle.mm_mission_text.specs.Headers.{all_in}
use Rattle.mm_mission_text.specs.Values.{next_cell}
use Rattle.mm_mission_text.proofs.value.cells_with.Given as goal

abbrev pub invariant-loop-column : goal.invariant-loop-column
invariant-loop-column l =
    let next = next_cell l.row (table_view l.table) (option_map (λ t. table_view t.now) l.channels) in
    record {
      ended : partial_of l.cells ≡ [];
      left : all_in next [] l.columns ≡ all_in next (fields_of l.cells) (drop l.column-index l.columns);
    }
