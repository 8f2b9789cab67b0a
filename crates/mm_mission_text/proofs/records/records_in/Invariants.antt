use Rattle.std.proofs.Common.{◌≡◌, ◌<◌, List, ◌++◌, map}
use Rattle.csv.specs.Records.{fields_of, trimmed}
use Rattle.mm_problem.specs.Records.{Fields, HasRecords}
use Rattle.mm_mission_text.specs.Tables.{rows_of}
use Rattle.mm_mission_text.proofs.records.records_in.Given as goal

abbrev pub invariant-loop-record : goal.invariant-loop-record
invariant-loop-record l = record {
  turns : 0 < l.record-iterator.left;
  rows : List Fields;
  has : HasRecords l.record-iterator.rdr rows;
  whole : map fields_of l.records.items ++ map (map trimmed) rows ≡ rows_of l.fn.text;
}
