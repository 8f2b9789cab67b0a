-- What tables are, in the words of their readers.
use Rattle.std.specs.Prelude.{◌≡◌, ℕ, ◌+◌, ◌<◌, ◌≤◌, ◌==◌, if◌then◌else◌, List, length, All}
use Rattle.std.specs.List.{sum_by}
use Rattle.csv.specs.Reading.{default_config, records_from}
use Rattle.csv.specs.declared.parser.State.TheVariants.{StartRecord}
use Rattle.mm_mission.specs.declared.dumps.Dump.{Dump}
use Rattle.mm_mission.specs.declared.packets.PacketStep.{PacketStep}
use Rattle.mm_mission.specs.Mission.{MissionRows, IsMission}
use Rattle.mm_mission.specs.Edges.{AreTimes}
use Rattle.mm_mission.specs.Packets.{all_steps}
use Rattle.mm_mission.specs.Timeline.{IsTimeline}
use Rattle.mm_base.specs.declared.limits.TheConstants.{MAX_STEPS}
use Rattle.mm_mission_sheet.specs.declared.sheet.Row.{Row}
use Rattle.mm_mission_sheet.specs.Cells.{csv_text}
use Rattle.mm_mission_sheet.specs.Timelines.{IsDump}
use Rattle.mm_mission_sheet.specs.Sheets.{AreFlown, over_steps, step_at, sheet_rows}

-- a table whose lines have cells is read back as these cells
abbrev pub TablesAreReadBack : Type 0
TablesAreReadBack = (lines : List (List (List ℕ))) → All (λ cells. 1 ≤ length cells) lines
    → records_from default_config (length lines) StartRecord (csv_text lines) ≡ lines

-- the dumps of a timeline can be printed
abbrev pub TimelinesFit : Type 0
TimelinesFit = (m : MissionRows) (edges : List ℕ) (x : ℕ → ℕ → ℕ) (dumps : List Dump) → AreTimes m edges
    → IsTimeline m edges x dumps → All (IsDump m) dumps

-- what a plan's steps do can be printed
abbrev pub PlansFit : Type 0
PlansFit = (m : MissionRows) (edges : List ℕ) (x : ℕ → ℕ → ℕ) → IsMission m → AreTimes m edges
    → length edges ≤ MAX_STEPS + 1 → AreFlown m edges (all_steps m edges x)

-- what a row says of a store; nothing of another store
abbrev pub told_of : ℕ → (Row → ℕ) → Row → ℕ
told_of s told row = if row.sent.store == s then told row else 0

-- what all rows of a store lose is what all steps lose of it
abbrev pub LossesAddUp : Type 0
LossesAddUp = (m : MissionRows) (edges : List ℕ) (steps : List PacketStep) (s : ℕ) → IsMission m → AreTimes m edges
    → s < length m.stores → sum_by (told_of s (λ row. row.lost)) (sheet_rows m edges steps)
    ≡ over_steps edges (λ t. (step_at edges steps s t).lost)
