-- The room that texts need.
use Rattle.std.specs.Prelude.{◌≡◌, ◌≤◌, None, length}
use Rattle.mm_plan.specs.Sheet.{SheetRows, IsSheet, sheet_text}
use Rattle.mm_told.specs.declared.room.TheConstants.{PLAN_ROOM}

-- each plan text that says nothing of the first stores fits into a buffer of this many octets
abbrev pub PlanTextsFit : Type 0
PlanTextsFit = (s : SheetRows) → IsSheet s → s.firsts ≡ None → length (sheet_text s) ≤ PLAN_ROOM
