-- Why the texts of a run are refused.
use Rattle.mm_base.specs.declared.refusal.Refusal.{Refusal}
use Rattle.mm_base.specs.declared.refusal.Refusal.TheVariants as refusal
use Rattle.mm_problem.specs.Fault.{refusal_of as problem_refusal}
use Rattle.mm_problem.specs.declared.fault.Fault.{Fault as ProblemFault}
use Rattle.mm_problem.specs.declared.fault.Fault.TheVariants as problem
use Rattle.mm_plan.specs.Fault.{refusal_of as plan_refusal}
use Rattle.mm_plan.specs.declared.fault.Fault.{Fault as PlanFault}
use Rattle.mm_plan.specs.declared.fault.Fault.TheVariants as plan
use Rattle.mm_run.specs.ScriptFault.{refusal_of as script_refusal}
use Rattle.mm_run.specs.declared.script_fault.ScriptFault.{ScriptFault}
use Rattle.mm_run.specs.declared.script_fault.ScriptFault.TheVariants as script
use Rattle.mm_run.specs.declared.fault.Fault.{Fault}
use Rattle.mm_run.specs.declared.fault.Fault.TheVariants.{NoMemory, Problem, Plan, Script}

-- which refusal a fault is
abbrev pub refusal_of : Fault → Refusal
refusal_of NoMemory = refusal.NoMemory
refusal_of (Problem fault) = problem_refusal fault
refusal_of (Plan fault) = plan_refusal fault
refusal_of (Script fault) = script_refusal fault

-- a fault of the plan text
abbrev pub of_plan : PlanFault → Fault
of_plan plan.NoMemory = NoMemory
of_plan fault = Plan fault

-- a fault of the setup or the forecast
abbrev pub of_problem : ProblemFault → Fault
of_problem problem.NoMemory = NoMemory
of_problem fault = Problem fault

-- a fault of the sources or the links
abbrev pub of_script : ScriptFault → Fault
of_script script.NoMemory = NoMemory
of_script fault = Script fault
