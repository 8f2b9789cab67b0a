-- Why a call is refused.
use Rattle.std.specs.Prelude.{ℕ, List, ◌++◌, codes, decimal}
use Rattle.mm_base.specs.Refusals.{number_of, name_of}
use Rattle.mm_base.specs.declared.refusal.Refusal.TheVariants as refusal
use Rattle.mm_problem.specs.Fault.{refusal_of as problem_refusal}
use Rattle.mm_problem.specs.declared.fault.Fault.{Fault as ProblemFault}
use Rattle.mm_cut.specs.Fault.{refusal_of as check_refusal}
use Rattle.mm_cut.specs.declared.fault.Fault.{Fault as CheckFault}
use Rattle.mm_told.specs.Spots.{spot_in_problem, spot_in_texts, fields_text}
use Rattle.mm_told.specs.declared.reason.Reason.{Reason}
use Rattle.mm_told.specs.declared.spot.Spot.TheVariants.{Whole}

-- memory ran out
abbrev pub no_memory : Reason
no_memory = record { refusal = refusal.NoMemory; spot = Whole }

-- a fault of the texts of a plan
abbrev pub of_texts : CheckFault → Reason
of_texts fault = record { refusal = check_refusal fault; spot = spot_in_texts fault }

-- a fault of a setup
abbrev pub of_setup : ProblemFault → Reason
of_setup fault = record { refusal = problem_refusal fault; spot = spot_in_problem fault }

-- the number, the name and the fields of a reason
abbrev pub reason_text : Reason → List ℕ
reason_text reason = decimal (number_of reason.refusal) ++ codes " " ++ name_of reason.refusal
    ++ fields_text reason.spot
