-- Whose fault it is that texts have no plan or no verdict.
use Rattle.mm_base.specs.declared.refusal.Refusal.{Refusal}
use Rattle.mm_base.specs.declared.refusal.Refusal.TheVariants as refusal
use Rattle.mm_problem.specs.Fault.{refusal_of as problem_refusal}
use Rattle.mm_problem.specs.declared.fault.Fault.{Fault as ProblemFault}
use Rattle.mm_problem.specs.declared.fault.Fault.TheVariants as problem
use Rattle.mm_plan.specs.Fault.{refusal_of as plan_refusal}
use Rattle.mm_plan.specs.declared.fault.Fault.{Fault as PlanFault}
use Rattle.mm_plan.specs.declared.fault.Fault.TheVariants as plan
use Rattle.mm_cut.specs.declared.fault.Fault.{Fault}
use Rattle.mm_cut.specs.declared.fault.Fault.TheVariants.{NoMemory, Problem, Plan}

-- which refusal a fault is
abbrev pub refusal_of : Fault → Refusal
refusal_of = elim [
  | NoMemory ↦ refusal.NoMemory
  | Problem fault ↦ problem_refusal fault
  | Plan fault ↦ plan_refusal fault
]

-- a fault of the setup or the forecast
abbrev pub of_problem : ProblemFault → Fault
of_problem problem.NoMemory = NoMemory
of_problem fault = Problem fault

-- a fault of the plan text
abbrev pub of_plan : PlanFault → Fault
of_plan plan.NoMemory = NoMemory
of_plan fault = Plan fault
