-- The unit in which a mission is planned: how many of the longest packets count as one.
use Rattle.std.specs.Prelude.{◌≡◌, ◌≢◌, ℕ, ◌+◌, ◌-◌, ◌*◌, ◌<◌, ◌≤◌, ◌⊎◌, Bool, false, List, length, IsTrue}
use Rattle.std.specs.Prelude.{Result, Ok, Err}
use Rattle.mm_base.specs.declared.limits.TheConstants.{MAX_STEPS}
use Rattle.mm_base.specs.Reading.{◌>>=◌}
use Rattle.mm_mission.specs.declared.fault.Fault.TheVariants as of_mission
use Rattle.mm_mission.specs.declared.limits.TheConstants.{MAX_UNIT}
use Rattle.mm_mission.specs.Edges.{AreEdges}
use Rattle.mm_mission.specs.Mission.{MissionRows, mission_from}
use Rattle.mm_mission.specs.Planned.{problem_of, IsProblemOf}
use Rattle.mm_mission_exact.specs.Exact.{ExactRows, exact_of}
use Rattle.mm_mission_exact.specs.declared.rows.Rows.{Rows}
use Rattle.mm_mission_text.specs.Cells.{told_as}
use Rattle.mm_mission_plan.specs.Faults.{exact_fault, mission_fault, is_small}
use Rattle.mm_mission_plan.specs.declared.fault.Fault.{Fault}
use Rattle.mm_mission_plan.specs.declared.fault.Fault.TheVariants.{NoMemory, Mission}
use Rattle.mm_mission_plan.specs.declared.flown.Flown.{Flown}
use Rattle.mm_mission_plan.specs.declared.unit.Found.{Found}
use Rattle.mm_mission_plan.specs.declared.unit.Tried.{Tried}

-- ---- a mission in a unit

-- the mission of exact numbers
abbrev pub mission_of : ExactRows → MissionRows
mission_of e = record { lasts = e.lasts; stores = e.stores; passes = e.passes; observations = e.observations }

-- the exact numbers of the program
abbrev pub numbers_of : Flown → ExactRows
numbers_of f = record {
  begin = f.begin;
  lasts = f.mission.lasts;
  stores = f.mission.stores;
  passes = f.mission.passes;
  places = f.places.items;
  observations = f.mission.observations;
}

-- the exact numbers of a mission whose passes do not overlap, or the first fault
unfoldable pub flown_of : Rows → ℕ → Result ExactRows Fault
flown_of rows unit = do
  exact ← told_as exact_fault (exact_of rows unit)
  mission ← told_as mission_fault (mission_from (mission_of exact))
  Ok exact

-- the exact numbers of the mission in this unit, its steps and its problem
pub record IsPlannable (rows : Rows) (unit : ℕ) (t : Tried) : Type 0 where
  pub exactly : flown_of rows unit ≡ Ok (numbers_of t.flown)
  pub edges : AreEdges t.flown.mission t.edges.items
  pub few : length t.edges.items ≤ MAX_STEPS + 1
  pub problem : IsProblemOf t.flown.mission t.edges.items t.problem

-- a mission has too many steps, or a problem with them that is refused
abbrev pub IsProblemFault : MissionRows → Fault → Type 0
IsProblemFault m fault = (edges : List ℕ) × AreEdges m edges
    × (((fault ≡ Mission of_mission.TooManySteps) × (MAX_STEPS + 1 < length edges))
    ⊎ (told_as mission_fault (problem_of m edges) ≡ Err fault))

-- the first fault of a mission in this unit
abbrev pub IsRefusal : Rows → ℕ → Fault → Type 0
IsRefusal rows unit fault =
    (flown_of rows unit ≡ Err fault)
    ⊎ ((exact : ExactRows) × (flown_of rows unit ≡ Ok exact) × IsProblemFault (mission_of exact) fault)

-- what comes of a mission in this unit; being out of memory says nothing
abbrev pub IsOutcome : Rows → ℕ → Result Tried Fault → Type 0
IsOutcome rows unit (Ok t) = IsPlannable rows unit t
IsOutcome rows unit (Err fault) = fault ≢ NoMemory → IsRefusal rows unit fault

-- ---- the least unit

-- with this unit a number of the problem is too large
abbrev pub IsTooSmall : Rows → ℕ → Type 0
IsTooSmall rows unit = (fault : Fault) × IsRefusal rows unit fault × IsTrue (is_small fault)

-- the unit is 1, or the one before it is too small
pub record IsLeast (rows : Rows) (unit : ℕ) : Type 0 where
  pub some : 1 ≤ unit
  pub before : (unit ≡ 1) ⊎ IsTooSmall rows (unit - 1)

-- the fault of the mission in the least unit, which is not too small if there are greater ones
abbrev pub IsLeastFault : Rows → Fault → Type 0
IsLeastFault rows fault = (unit : ℕ) × IsLeast rows unit × IsRefusal rows unit fault
    × (IsTrue (is_small fault) → MAX_UNIT ≤ unit)

-- ---- the unit of a mission

-- no unit is said, or the mission is refused in it
abbrev pub HasNoUnit : Rows → Type 0
HasNoUnit rows = (rows.whole.now.unit ≡ 0) ⊎ ((fault : Fault) × IsRefusal rows rows.whole.now.unit fault)

-- the unit that is said, if the mission can be planned in it, or else the least one
abbrev pub IsUnit : Rows → ℕ → Type 0
IsUnit rows unit = ((1 ≤ unit) × (rows.whole.now.unit ≡ unit)) ⊎ (HasNoUnit rows × IsLeast rows unit)

-- the mission in its unit
pub record IsInUnit (rows : Rows) (unit : ℕ) (t : Tried) : Type 0 where
  pub is_unit : IsUnit rows unit
  pub plannable : IsPlannable rows unit t

-- the fault of a mission that has no unit, in the least one
abbrev pub IsUnitFault : Rows → Fault → Type 0
IsUnitFault rows fault = HasNoUnit rows × IsLeastFault rows fault

-- ---- on the way to it

-- whether the unit is too small of which this comes
abbrev pub is_too_small : Result Tried Fault → Bool
is_too_small (Ok t) = false
is_too_small (Err fault) = is_small fault

-- the lower unit is none or too small
pub record IsTried (rows : Rows) (found : Found) : Type 0 where
  pub low : (found.low ≡ 0) ⊎ IsTooSmall rows found.low
  pub below : found.low < found.high
  pub most : found.high ≤ 2 * MAX_UNIT
  pub outcome : IsOutcome rows found.high found.outcome

-- so it is, and the higher one is not too small, unless it is the greatest
pub record IsFound (rows : Rows) (found : Found) : Type 0 where
  pub tried : IsTried rows found
  pub enough : IsTrue (is_too_small found.outcome) → MAX_UNIT ≤ found.high
