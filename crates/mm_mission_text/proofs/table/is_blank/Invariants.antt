use Rattle.std.proofs.Common.{◌≡◌, drop}
use Rattle.csv.specs.Records.{fields_of}
use Rattle.mm_mission_text.specs.Tables.{is_blank}
use Rattle.mm_mission_text.proofs.table.is_blank.Given as goal

abbrev pub invariant-loop-i : goal.invariant-loop-i
invariant-loop-i l = is_blank (fields_of l.row) ≡ is_blank (drop l.i (fields_of l.row))
