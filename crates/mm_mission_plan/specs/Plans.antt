-- The plan of a mission, from its tables to what is printed.
use Rattle.std.specs.Prelude.{◌≡◌, ℕ, ◌⊎◌, List, Ok, Err}
use Rattle.mm_mission.specs.declared.dumps.Dump.{Dump}
use Rattle.mm_mission.specs.Edges.{AreEdges}
use Rattle.mm_mission.specs.Packets.{all_steps, sent_in}
use Rattle.mm_mission.specs.Planned.{IsProblemOf}
use Rattle.mm_mission.specs.Timeline.{amount, IsTimeline}
use Rattle.mm_mission_exact.specs.Exact.{ExactRows, exact_of}
use Rattle.mm_mission_exact.specs.declared.rows.Rows.{Rows}
use Rattle.mm_mission_sheet.specs.Cells.{csv_text}
use Rattle.mm_mission_sheet.specs.Sheets.{sheet_lines, sheet_rows}
use Rattle.mm_mission_sheet.specs.Timelines.{IsTimelineText}
use Rattle.mm_mission_sheet.specs.declared.flight.PassName.{PassName}
use Rattle.mm_mission_text.specs.Cells.{told_as}
use Rattle.mm_mission_text.specs.Missions.{mission_in}
use Rattle.mm_mission_text.specs.declared.document.MissionText.{MissionText}
use Rattle.mm_plan.specs.Sheet.{SheetRows}
use Rattle.mm_planner.specs.PlanTexts.{PlansFor, IsPlain}
use Rattle.mm_problem.specs.Dumping.{Dumping}
use Rattle.mm_problem.specs.Texts.{SaysProblem}
use Rattle.mm_mission_plan.specs.Faults.{text_fault}
use Rattle.mm_mission_plan.specs.Names.{AreNames}
use Rattle.mm_mission_plan.specs.Rows.{TableTexts, said_by, rows_in}
use Rattle.mm_mission_plan.specs.Units.{mission_of, IsUnit, IsUnitFault}
use Rattle.mm_mission_plan.specs.declared.fault.Fault.{Fault}
use Rattle.mm_mission_plan.specs.declared.plan.PlannedMission.{PlannedMission}

-- the plan of these rows
pub record PlansRows (rows : Rows) (p : PlannedMission) : Type 0 where
  -- the exact numbers of the rows, counted in the mission's unit
  pub unit : IsUnit rows p.unit
  pub exact : ExactRows
  pub exactly : exact_of rows p.unit ≡ Ok exact
  -- the problem of its steps, as setup and forecast say it
  pub edges : List ℕ
  pub are_edges : AreEdges (mission_of exact) edges
  pub problem : Dumping
  pub is_problem : IsProblemOf (mission_of exact) edges problem
  pub says_problem : SaysProblem p.setup.items p.forecast.items problem
  -- a plan that loses least, as the plan's text says it
  pub certified : SheetRows
  pub plans : PlansFor problem p.plan.items certified
  pub plain : IsPlain problem certified
  pub loss : p.loss ≡ certified.loss
  -- what the plan does in packets, and when it sends them
  pub steps : p.steps.items ≡ all_steps (mission_of exact) edges (amount (mission_of exact) certified.plan.amounts)
  pub dumps : List Dump
  pub sends : IsTimeline (mission_of exact) edges (sent_in edges p.steps.items) dumps
  -- the same in UTC
  pub names : List PassName
  pub named : AreNames rows.passes.now exact.places names
  pub timeline : IsTimelineText exact.begin (mission_of exact) names dumps p.timeline.items
  pub sheet : p.sheet.items
      ≡ csv_text (sheet_lines exact.begin (mission_of exact) names (sheet_rows (mission_of exact) edges p.steps.items))

-- the rows that a mission and its files say, and their plan
pub record PlansMission (said : MissionText) (tables : TableTexts) (p : PlannedMission) : Type 0 where
  pub rows : Rows
  pub says : rows_in said tables ≡ Ok (said_by rows)
  pub plans : PlansRows rows p

-- the first fault of the files, or else of the rows
abbrev pub IsFaultOf : MissionText → TableTexts → Fault → Type 0
IsFaultOf said tables fault =
    (rows_in said tables ≡ Err fault)
    ⊎ ((rows : Rows) × (rows_in said tables ≡ Ok (said_by rows)) × IsUnitFault rows fault)

-- the plan of the mission that a text says
abbrev pub PlansText : List ℕ → TableTexts → PlannedMission → Type 0
PlansText text tables p = (said : MissionText) × (mission_in text ≡ Ok said) × PlansMission said tables p

-- the first fault of the text, or else of its mission
abbrev pub IsFaultOfText : List ℕ → TableTexts → Fault → Type 0
IsFaultOfText text tables fault =
    (told_as text_fault (mission_in text) ≡ Err fault)
    ⊎ ((said : MissionText) × (mission_in text ≡ Ok said) × IsFaultOf said tables fault)
