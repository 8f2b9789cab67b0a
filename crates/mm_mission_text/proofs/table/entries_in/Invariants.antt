use Rattle.std.proofs.Common.{◌≡◌, ◌+◌, [], map, drop}
use Rattle.csv.specs.Records.{fields_of}
use Rattle.mm_mission_text.specs.Headers.{all_in}
use Rattle.mm_mission_text.specs.Tables.{next_entry, numbered}
use Rattle.mm_mission_text.proofs.table.entries_in.Given as goal

abbrev pub invariant-loop-i : goal.invariant-loop-i
invariant-loop-i g l =
    all_in (next_entry g.E.Entry.entry_in l.columns) [] (numbered 1 (map fields_of l.rows))
    ≡ all_in (next_entry g.E.Entry.entry_in l.columns) l.entries.items
    (numbered (l.i + 1) (map fields_of (drop l.i l.rows)))
