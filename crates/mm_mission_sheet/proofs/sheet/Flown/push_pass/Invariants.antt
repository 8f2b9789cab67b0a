use Rattle.std.proofs.Common.{◌≡◌, ◌++◌, map}
use Rattle.std.specs.List.{range_with_len}
use Rattle.mm_mission_sheet.specs.Sheets.{row_in, rows_text}
use Rattle.mm_mission_sheet.proofs.sheet.Flown.push_pass.Given as goal

abbrev pub invariant-loop-store : goal.invariant-loop-store
invariant-loop-store l =
    l.text.items ≡ l.fn.text.items ++ rows_text l.self.flight.begin l.self.flight.mission.now l.self.flight.names.now
    (map (row_in l.self.flight.mission.now l.self.edges.now l.self.steps.now l.pass) (range_with_len 0 l.store))
