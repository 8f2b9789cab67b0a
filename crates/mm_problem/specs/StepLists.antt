-- The steps read so far as lists.
use Rattle.std.specs.Prelude.{ℕ, List, Option}
use Rattle.mm_base.specs.declared.rows.StoreRow.{StoreRow}
use Rattle.mm_problem.specs.Dumping.{Dumping}
use Rattle.mm_problem.specs.Forecast.{Columns, Steps}
use Rattle.mm_problem.specs.declared.come.Arrivals.{Arrivals}
use Rattle.mm_problem.specs.declared.columns.HeaderColumns.{HeaderColumns}
use Rattle.mm_problem.specs.declared.steps.StepTable.{StepTable}

-- the numbers in the vectors
abbrev pub steps_of : StepTable → Steps
steps_of s = record {
  limited = s.limited.items;
  windows = s.windows.items;
  arrived = s.arrived.items;
  step_limits = s.step_limits.items;
  sized = s.sized.items;
  step_sizes = s.step_sizes.items;
}

-- the columns in the vectors
abbrev pub columns_of : HeaderColumns → Columns
columns_of c = record { limited = c.limited.items; sized = c.sized.items }

-- the problem of these stores, limits of channels, steps, and arrivals that come then
abbrev pub numbers_of : List StoreRow → List (Option ℕ) → StepTable → Arrivals → Dumping
numbers_of rows limits s come = record {
  rows = rows;
  limits = limits;
  windows = s.windows.items;
  arrived = s.arrived.items;
  limited = s.limited.items;
  step_limits = s.step_limits.items;
  sized = s.sized.items;
  step_sizes = s.step_sizes.items;
  come = come;
}
