use Rattle.std.proofs.Common.{◌≡◌, ℕ, List, map, arith}
use Rattle.mm_command_line.specs.Lines.{flight_spelling}
use Rattle.mm_command_line.specs.declared.task.FlightPlan.{FlightPlan}
use Rattle.mm_command_line.specs.declared.task.FlightPlan.TheVariants.{Given, Made}
use Rattle.mm_command_line.specs.declared.task.Task.TheVariants.{Fly}
use Rattle.mm_command_line.proofs.Plain.{count_is, first_is}
use Rattle.mm_command_line.proofs.line.task_of.Goals.{In_default}
use Rattle.mm_command_line.proofs.line.task_of.Goals as goal

no_flight : (c : In_default) (setup forecast sources links : List ℕ) (plan : FlightPlan)
    → flight_spelling setup forecast sources links plan ≡ map (λ word. word.now) c.args.words.now → ⊥
no_flight c setup forecast sources links (Made in_order) is = grind (arith, count_is _ _ is, first_is _ _ is)
no_flight c setup forecast sources links (Given plan rest) is = grind (arith, count_is _ _ is, first_is _ _ is)

pub returns-in_default-clause-none : goal.returns-in_default-clause-none
returns-in_default-clause-none c (Fly files) is =
    no_flight c files.setup.now files.forecast.now files.sources.now files.links.now files.plan is
returns-in_default-clause-none c other is = grind (arith, count_is _ _ is, first_is _ _ is)
