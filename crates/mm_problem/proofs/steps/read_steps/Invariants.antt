use Rattle.std.proofs.Common.{◌≡◌, ◌+◌, ◌-◌, ◌≤◌, List, vec_len}
use Rattle.mm_base.specs.declared.limits.TheConstants.{MAX_STEPS, MAX_STORES, CHANNELS}
use Rattle.mm_base.specs.Reading.{◌>>=◌}
use Rattle.mm_problem.specs.Forecast.{steps_in, no_steps, some_steps}
use Rattle.mm_problem.specs.Records.{Fields, HasRecords}
use Rattle.mm_problem.specs.StepLists.{columns_of, steps_of}
use Rattle.mm_problem.proofs.steps.read_steps.Given as goal

abbrev pub invariant-rows : goal.invariant-rows
invariant-rows l = record {
  most : vec_len l.steps.windows ≤ MAX_STEPS;
  limited : vec_len l.steps.limited ≤ CHANNELS;
  sized : vec_len l.steps.sized ≤ MAX_STORES;
  rows : List Fields;
  has : HasRecords l.reader rows;
  left : (all : List Fields) → HasRecords l.fn.reader all → (steps_in l.stores (steps_of l.steps) rows >>= some_steps)
      ≡ (steps_in l.stores (no_steps (columns_of l.fn.columns)) all >>= some_steps);
}

abbrev pub decreases-rows : goal.decreases-rows
decreases-rows l = MAX_STEPS + 1 - vec_len l.steps.windows
