-- Why a task is refused: which refusal each fault is, and its line.
use Rattle.std.specs.Prelude.{ℕ, List, [], ◌∷◌, ◌++◌, codes}
use Rattle.mm_base.specs.Characters.{line_feed}
use Rattle.mm_base.specs.declared.refusal.Refusal.{Refusal}
use Rattle.mm_base.specs.declared.refusal.Refusal.TheVariants as refusal
use Rattle.mm_problem.specs.Fault.{refusal_of as problem_refusal}
use Rattle.mm_cut.specs.Fault.{refusal_of as check_refusal}
use Rattle.mm_run.specs.Ending.{refusal_text}
use Rattle.mm_run.specs.Fault.{refusal_of as flight_refusal}
use Rattle.mm_run.specs.declared.fault.Fault.{Fault as FlightFault}
use Rattle.mm_run.specs.declared.fault.Fault.TheVariants as flight
use Rattle.mm_told.specs.Spots.{spot_in_problem, spot_in_plan, spot_in_texts, fields_text}
use Rattle.mm_told.specs.declared.spot.Spot.{Spot}
use Rattle.mm_told.specs.declared.spot.Spot.TheVariants.{Whole, Number as NumberAt}
use Rattle.mm_problem.specs.declared.fault.Name.TheVariants.{Steps}
use Rattle.mm_files.specs.FileNames.{shown_name}
use Rattle.mm_commands.specs.Spots.{spot_in_script}
use Rattle.mm_commands.specs.declared.fault.Fault.{Fault}
use Rattle.mm_commands.specs.declared.fault.Fault.TheVariants.{NoMemory, NotRead, Texts, Run, Setup, NoStepAfter}
use Rattle.mm_commands.specs.declared.fault.Fault.TheVariants as fault

-- which refusal a fault is
abbrev pub refusal_of : Fault → Refusal
refusal_of NoMemory = refusal.NoMemory
refusal_of (NotRead name obstacle) = refusal.NotRead
refusal_of (Texts fault) = check_refusal fault
refusal_of (Run fault) = flight_refusal fault
refusal_of (Setup fault) = problem_refusal fault
refusal_of (NoStepAfter word steps) = refusal.Limit
refusal_of (fault.Mission refusal) = refusal

-- where in its file a fault of the texts of a run is
abbrev pub spot_in_run : FlightFault → Spot
spot_in_run flight.NoMemory = Whole
spot_in_run (flight.Problem fault) = spot_in_problem fault
spot_in_run (flight.Plan fault) = spot_in_plan fault
spot_in_run (flight.Script fault) = spot_in_script fault

-- where in its file a fault is
abbrev pub spot_of : Fault → Spot
spot_of NoMemory = Whole
spot_of (NotRead name obstacle) = Whole
spot_of (Texts fault) = spot_in_texts fault
spot_of (Run fault) = spot_in_run fault
spot_of (Setup fault) = spot_in_problem fault
spot_of (NoStepAfter word steps) = NumberAt Steps
spot_of (fault.Mission refusal) = Whole

-- the fields of a fault: the name of the file, or the place in it
abbrev pub fields_of : Fault → List ℕ
fields_of (NotRead name obstacle) = codes " name " ++ shown_name name.now
fields_of fault = fields_text (spot_of fault)

-- the text of a fault: its number, its name and its fields
abbrev pub fault_text : Fault → List ℕ
fault_text fault = refusal_text (refusal_of fault) ++ fields_of fault

-- the line that says why a task is refused
abbrev pub refused_line : Fault → List ℕ
refused_line fault = codes "refused " ++ fault_text fault ++ line_feed ∷ []
