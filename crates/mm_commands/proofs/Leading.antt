-- What the script says of a run that a link halted.
use Rattle.std.proofs.Common.{◌≡◌, ℕ, List}
use Rattle.mm_problem.specs.Dumping.{Dumping}
use Rattle.mm_problem.specs.Setup.{SetupRows}
use Rattle.mm_report.specs.declared.cause.Cause.TheVariants.{LinkFailed}
use Rattle.mm_run.specs.declared.stopped_run.StoppedRun.{StoppedRun}
use Rattle.mm_commands.specs.Given.{IsGiven}
use Rattle.mm_commands.specs.Halts.{SaysHalt, TellsHalt}
use Rattle.mm_commands.specs.declared.texts.TaskTexts.{TaskTexts}

-- the script of the problem that the texts say
pub tells : (texts : TaskTexts) (run : StoppedRun) (script : List ℕ) (rows : SetupRows) (problem : Dumping) (step : ℕ)
    → IsGiven texts.setup.items texts.forecast.items rows problem → run.halted.cause ≡ LinkFailed step
    → SaysHalt rows problem step run script → TellsHalt texts run script
tells texts run script rows problem step given cause says = record {
  rows = rows;
  problem = problem;
  step = step;
  given = given;
  cause = cause;
  says = says;
}
