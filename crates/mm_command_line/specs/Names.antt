-- The names of a task's files.
use Rattle.std.specs.Prelude.{ℕ, List, Option, Some, None}
use Rattle.std.specs.Borrow.{Bor}
use Rattle.mm_command_line.specs.declared.task.FileNames.{FileNames}
use Rattle.mm_command_line.specs.declared.task.FlightPlan.{FlightPlan}
use Rattle.mm_command_line.specs.declared.task.FlightPlan.TheVariants.{Given, Made}
use Rattle.mm_command_line.specs.declared.task.PlanFiles.{PlanFiles}
use Rattle.mm_command_line.specs.declared.task.Task.{Task}
use Rattle.mm_command_line.specs.declared.task.Task.TheVariants.{Plan, Keep, Check, Chart, Table, Rest, Sensitivity}
use Rattle.mm_command_line.specs.declared.task.Task.TheVariants.{Fly, Ask, Read, Mission}

abbrev pub no_names : FileNames
no_names = record { setup = None; forecast = None; plan = None; sources = None; links = None; other = None }

-- the name of the plan of a run, where it is given
abbrev pub name_of_plan : FlightPlan → Option (Bor (List ℕ))
name_of_plan (Given name rest) = Some name
name_of_plan (Made in_order) = None

-- those of a judged plan
abbrev pub names_of_plan : PlanFiles → FileNames
names_of_plan files =
    record no_names { setup = Some files.setup; forecast = Some files.forecast; plan = Some files.plan }

-- those of a task
abbrev pub names_in : Task → FileNames
names_in (Plan setup forecast in_order output) = record no_names { setup = Some setup; forecast = Some forecast }
names_in (Keep kept output) = names_of_plan kept.files
names_in (Check files) = names_of_plan files
names_in (Chart files worth output) = names_of_plan files
names_in (Table files output) = names_of_plan files
names_in (Rest kept output) = names_of_plan kept.files
names_in (Sensitivity setup forecast output) = record no_names { setup = Some setup; forecast = Some forecast }
names_in (Fly f) = record no_names {
  setup = Some f.setup;
  forecast = Some f.forecast;
  plan = name_of_plan f.plan;
  sources = Some f.sources;
  links = Some f.links;
}
names_in (Ask setup requests) = record no_names { setup = Some setup; other = Some requests }
names_in (Read packets) = record no_names { other = Some packets }
names_in (Mission mission part output) = record no_names { other = Some mission }
