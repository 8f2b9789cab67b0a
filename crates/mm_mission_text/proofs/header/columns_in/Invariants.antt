use Rattle.std.proofs.Common.{◌≡◌, [], drop}
use Rattle.csv.specs.Records.{fields_of}
use Rattle.mm_mission_text.specs.Headers.{all_in, next_column}
use Rattle.mm_mission_text.proofs.header.columns_in.Given as goal

abbrev pub invariant-loop-i : goal.invariant-loop-i
invariant-loop-i l =
    all_in (next_column l.known) [] (fields_of l.names)
    ≡ all_in (next_column l.known) l.columns.items (drop l.i (fields_of l.names))
