use Rattle.std.proofs.Common.{◌≡◌, ◌++◌}
use Rattle.std.specs.List.{flat_map, range_with_len}
use Rattle.mm_mission_sheet.specs.Sheets.{rows_before, rows_in, rows_text}
use Rattle.mm_mission_sheet.proofs.sheet.Flown.push_rows.Given as goal

abbrev pub invariant-loop-pass : goal.invariant-loop-pass
invariant-loop-pass l =
    l.text.items ≡ l.fn.text.items ++ rows_text l.self.flight.begin l.self.flight.mission.now l.self.flight.names.now
    (rows_before l.self.flight.mission.now l.self.edges.now l.self.steps.now
    ++ flat_map (rows_in l.self.flight.mission.now l.self.edges.now l.self.steps.now) (range_with_len 0 l.pass))
