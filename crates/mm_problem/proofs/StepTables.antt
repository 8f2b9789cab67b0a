-- Problems whose steps are those of a table.
use Rattle.std.proofs.Common.{◌≡◌, ℕ, List, Option, length, sym, subst}
use Rattle.mm_base.specs.declared.limits.TheConstants.{CHANNELS}
use Rattle.mm_base.specs.declared.rows.StoreRow.{StoreRow}
use Rattle.mm_problem.specs.Dumping.{AreSteps, AreChannels, AreColumns, IsDumping}
use Rattle.mm_problem.specs.Forecast.{Steps}
use Rattle.mm_problem.specs.Setup.{AreStores}
use Rattle.mm_problem.specs.StepLists.{steps_of, numbers_of}
use Rattle.mm_problem.specs.declared.come.Arrivals.{Arrivals}
use Rattle.mm_problem.specs.declared.steps.StepTable.{StepTable}

-- stores, steps, limits and sizes within their ranges are those of a problem
pub are_numbers : (rows : List StoreRow) (limits : List (Option ℕ)) (table : StepTable) (s : Steps) (come : Arrivals)
    → steps_of table ≡ s → AreStores rows → AreSteps rows s.windows s.arrived → AreChannels limits
    → AreColumns CHANNELS s.windows s.limited s.step_limits → AreColumns (length rows) s.windows s.sized s.step_sizes
    → IsDumping (numbers_of rows limits table come)
are_numbers rows limits table s come same stores steps channels by_step by_store =
    subst (λ (t : Steps). IsDumping (record {
      rows = rows;
      limits = limits;
      windows = t.windows;
      arrived = t.arrived;
      limited = t.limited;
      step_limits = t.step_limits;
      sized = t.sized;
      step_sizes = t.step_sizes;
      come = come;
    })) (sym same) (record {
      stores = stores;
      steps = steps;
      channels = channels;
      by_step = by_step;
      sizes = by_store;
    })
