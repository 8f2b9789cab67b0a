-- The faults of each stage, as those of the whole, where out of memory stays what it is.
use Rattle.std.specs.Prelude.{Bool, true, false}
use Rattle.mm_base.specs.declared.refusal.Refusal.{Refusal}
use Rattle.mm_base.specs.declared.refusal.Refusal.TheVariants as refusal
use Rattle.mm_mission.specs.declared.fault.Fault as mission
use Rattle.mm_mission.specs.declared.fault.Fault.TheVariants as of_mission
use Rattle.mm_mission_exact.specs.declared.fault.Fault as exact
use Rattle.mm_mission_exact.specs.declared.fault.Fault.TheVariants as of_exact
use Rattle.mm_mission_exact.specs.declared.fault.Number.TheVariants as number
use Rattle.mm_mission_text.specs.declared.column.Column.{Column}
use Rattle.mm_mission_text.specs.declared.fault.Fault as text
use Rattle.mm_mission_text.specs.declared.fault.Fault.TheVariants as of_table
use Rattle.mm_mission_text.specs.declared.mission_fault.MissionFault.{MissionFault}
use Rattle.mm_mission_text.specs.declared.mission_fault.MissionFault.TheVariants as of_text
use Rattle.mm_problem.specs.declared.fault.Fault.TheVariants as of_problem
use Rattle.mm_mission_plan.specs.declared.fault.Fault.{Fault}
use Rattle.mm_mission_plan.specs.declared.fault.Fault.TheVariants.{NoMemory, Text, NotGiven, NotNamed, Table}
use Rattle.mm_mission_plan.specs.declared.fault.Fault.TheVariants.{Exact, Mission}

abbrev pub text_fault : MissionFault → Fault
text_fault of_text.NoMemory = NoMemory
text_fault fault = Text fault

abbrev pub table_fault : Column → text.Fault → Fault
table_fault file of_table.NoMemory = NoMemory
table_fault file fault = Table file fault

abbrev pub exact_fault : exact.Fault → Fault
exact_fault of_exact.NoMemory = NoMemory
exact_fault fault = Exact fault

abbrev pub mission_fault : mission.Fault → Fault
mission_fault of_mission.NoMemory = NoMemory
mission_fault fault = Mission fault

-- whether a number of the problem is too large, which a larger unit makes less: a size, a window, a limit or an arrival
abbrev pub is_small : Fault → Bool
is_small (Exact (of_exact.OutOfRange number.Size row)) = true
is_small (Mission (of_mission.Problem (of_problem.Limit name))) = true
is_small fault = false

-- which refusal it is
abbrev pub refusal_of : Fault → Refusal
refusal_of = elim [
  | NoMemory ↦ refusal.NoMemory
  | Text fault ↦ refusal.MissionText
  | NotGiven file ↦ refusal.MissionTable
  | NotNamed file ↦ refusal.MissionTable
  | Table file fault ↦ refusal.MissionText
  | Exact fault ↦ refusal.MissionRow
  | Mission fault ↦ refusal.MissionRow
]
