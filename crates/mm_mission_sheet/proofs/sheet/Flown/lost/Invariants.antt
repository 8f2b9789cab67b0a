use Rattle.std.proofs.Common.{◌≡◌, ◌-◌, ◌≤◌, max, length}
use Rattle.std.specs.List.{range_with_len, sum_by}
use Rattle.mm_mission_sheet.specs.Sheets.{lost_then}
use Rattle.mm_mission_sheet.proofs.sheet.Flown.lost.Given as goal

abbrev pub invariant-loop-step : goal.invariant-loop-step
invariant-loop-step l = record {
  total : l.total ≡ sum_by (lost_then l.self.edges.now l.self.steps.now l.store l.span) (range_with_len 1 (l.step - 1));
  within : l.step ≤ max 1 (length l.self.edges.now);
}
