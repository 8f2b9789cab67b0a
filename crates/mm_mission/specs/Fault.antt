-- Faults of the problem that is planned, as faults of its mission.
use Rattle.mm_problem.specs.declared.fault.Fault as problem
use Rattle.mm_problem.specs.declared.fault.Fault.TheVariants as because
use Rattle.mm_mission.specs.declared.fault.Fault.{Fault}
use Rattle.mm_mission.specs.declared.fault.Fault.TheVariants.{NoMemory, Problem}

abbrev pub fault_of : problem.Fault → Fault
fault_of because.NoMemory = NoMemory
fault_of fault = Problem fault
