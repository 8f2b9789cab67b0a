use Rattle.std.proofs.Common.{◌≡◌, ◌+◌, ◌-◌, [], vec_len}
use Rattle.csv.specs.Records.{fields_of}
use Rattle.mm_problem.specs.Forecast.{cells_from, channels_in}
use Rattle.mm_problem.proofs.columns.channels_in.Given as goal

abbrev pub invariant-loop-i : goal.invariant-loop-i
invariant-loop-i l = record {
  same : channels_in l.channels.items (cells_from (fields_of l.row) l.i (l.end - l.i))
      ≡ channels_in [] (cells_from (fields_of l.row) l.first (l.end - l.first));
  each : l.first + vec_len l.channels ≡ l.i;
}
