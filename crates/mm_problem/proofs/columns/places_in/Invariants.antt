use Rattle.std.proofs.Common.{◌≡◌, ◌+◌, [], drop, vec_len}
use Rattle.csv.specs.Records.{fields_of}
use Rattle.mm_problem.specs.Forecast.{places_in}
use Rattle.mm_problem.proofs.columns.places_in.Given as goal

abbrev pub invariant-loop-i : goal.invariant-loop-i
invariant-loop-i l = record {
  same : places_in l.stores l.places.items (drop l.i (fields_of l.row))
      ≡ places_in l.stores [] (drop l.first (fields_of l.row));
  each : l.first + vec_len l.places ≡ l.i;
}
