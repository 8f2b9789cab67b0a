-- The problem of a step that was halted, and of the steps after it.
use Rattle.std.proofs.Common.{◌≡◌, ℕ, List, [], Ok, length, refl, sym, true, ◌∙◌, ap}
use Rattle.mm_base.specs.Reading.{test}
use Rattle.mm_base.specs.declared.limits.TheConstants.{CHANNELS}
use Rattle.mm_base.specs.declared.rows.LimitRow.{LimitRow}
use Rattle.mm_base.specs.declared.rows.StoreRow.{StoreRow}
use Rattle.mm_base.proofs.ReadingSteps.{bind_ok, ok_same, test_ok}
use Rattle.mm_problem.specs.Data.{columns_fit, limit_fits, limited_by, problem_from, rows_fit, steps_fit, store_fits}
use Rattle.mm_problem.specs.Document.{limits_counted, stores_counted}
use Rattle.mm_problem.specs.Dumping.{Dumping}
use Rattle.mm_problem.specs.Forecast.{limits_of, some_step}
use Rattle.mm_problem.specs.Rest.{rest_from, rest_of, rows_from, starts_fit}
use Rattle.mm_problem.specs.Setup.{SetupRows}
use Rattle.mm_problem.specs.declared.come.Arrivals.TheVariants.{Before}
use Rattle.mm_problem.specs.declared.fault.Fault.TheVariants.{Limit}
use Rattle.mm_problem.specs.declared.fault.Name.TheVariants as name
use Rattle.mm_rest.specs.Halts.{first_halted}
use Rattle.mm_rest.specs.Rests.{setup_for, setup_from}
use Rattle.mm_rest.specs.declared.halt.HaltedStep.{HaltedStep}

-- if the rest is given, it is the rest, and the start volumes fit
pub rest_given : (q : Dumping) (n : ℕ) (starts : List ℕ) (rest : Dumping) → rest_from q n starts ≡ Ok rest
    → (rest ≡ rest_of q n starts) × (starts_fit q.rows starts ≡ true)
unfolding rest_from
rest_given q n starts rest h =
    let passed = bind_ok (test (starts_fit q.rows starts) (Limit name.Start)) (λ _. Ok (rest_of q n starts)) rest h in
    (sym (ok_same _ rest passed.2), test_ok _ _ passed.0 passed.1)

-- the problem of data, with limits by step, has these data
module _ (rows : List StoreRow) (limits : List LimitRow) (windows arrived : List ℕ) (whole : Dumping)
    (made : problem_from rows limits windows arrived ≡ Ok whole) where
  whole_is : record {
    rows = rows;
    limits = limits_of limits;
    windows = windows;
    arrived = arrived;
    limited = [];
    step_limits = [];
    sized = [];
    step_sizes = [];
    come = Before;
  } ≡ whole
  unfolding problem_from
  whole_is =
      let counted = bind_ok (stores_counted (length rows)) _ whole made in
      let few = bind_ok (limits_counted (length limits)) _ whole counted.2 in
      let stores = bind_ok (rows_fit store_fits [] rows) _ whole few.2 in
      let channels = bind_ok (rows_fit limit_fits [] limits) _ whole stores.2 in
      let steps = bind_ok (steps_fit (length rows) 0 windows arrived) _ whole channels.2 in
      let some = bind_ok (some_step (length windows)) _ whole steps.2 in
      ok_same _ whole some.2

  pub limited_is : (q : Dumping) (columns cells : List ℕ) → limited_by whole columns cells ≡ Ok q
      → q ≡ record {
        rows = rows;
        limits = limits_of limits;
        windows = windows;
        arrived = arrived;
        limited = columns;
        step_limits = cells;
        sized = [];
        step_sizes = [];
        come = Before;
      }
  unfolding limited_by
  limited_is q columns cells h =
      let fit = bind_ok (columns_fit CHANNELS name.Limit (length whole.windows) columns cells) _ q h in
      sym (ok_same _ q fit.2)
      ∙ sym (ap (λ (p : Dumping). record p { limited = columns; step_limits = cells }) whole_is)

-- the stores and the limits stay, so that the setup is that with other start volumes
pub halt_rows : (q : Dumping) (halted : HaltedStep) → (first_halted q halted).rows ≡ q.rows
unfolding first_halted
halt_rows q halted = refl

pub halt_limits : (q : Dumping) (halted : HaltedStep) → (first_halted q halted).limits ≡ q.limits
unfolding first_halted
halt_limits q halted = refl

pub halt_setup : (m : SetupRows) (q : Dumping) (n : ℕ) (halted : HaltedStep) → q.rows ≡ m.stores
    → setup_for m (first_halted (rest_of q n halted.held.items) halted) ≡ setup_from m Before halted.held.items
unfolding first_halted
halt_setup m q n halted same =
    ap (λ rows. record (setup_from m Before halted.held.items) { stores = rows_from rows halted.held.items }) same
