use Rattle.std.proofs.Common.{◌≡◌, ◌++◌, map, take}
use Rattle.mm_mission_sheet.specs.Cells.{csv_text}
use Rattle.mm_mission_sheet.specs.Timelines.{dump_cells}
use Rattle.mm_mission_sheet.proofs.timeline.push_dumps.Given as goal

abbrev pub invariant-loop-dump : goal.invariant-loop-dump
invariant-loop-dump l = l.text.items ≡ l.fn.text.items
    ++ csv_text (map (dump_cells l.flight.begin l.flight.mission.now l.flight.names.now) (take l.dump-index l.dumps))
