-- Each line computes, once its numbers are spelled.
use Rattle.std.specs.Fmt.{digits}
use Rattle.std.proofs.Common.{refl}
use Rattle.tests_commands.proofs.causes.last_lines_of_runs.Goals as goal

pub returns : goal.returns
unfolding digits
returns c = record {
  plan_shape = refl;
  not_ready = refl;
  size_differs = refl;
  clock_too_late = refl;
  no_memory = refl;
  log_mismatch = refl;
  channel_differs = refl;
}
