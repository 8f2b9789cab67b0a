-- The problem of a mission that was made.
use Rattle.std.proofs.Common.{◌≡◌, ℕ, List, [], Result, Ok, Err, refl, sym, ap}
use Rattle.std.specs.Prelude.{IfOk, length, map, nat_le}
use Rattle.std.specs.List.{list_all}
use Rattle.mm_base.specs.declared.limits.TheConstants.{MAX_BLOCKS, CHANNELS}
use Rattle.mm_base.specs.Reading.{Gives, test}
use Rattle.mm_base.specs.declared.rows.LimitRow.{LimitRow}
use Rattle.mm_base.specs.declared.rows.StoreRow.{StoreRow}
use Rattle.mm_base.proofs.ReadingSteps.{bind_ok, ok_same}
use Rattle.mm_problem.specs.declared.come.Arrivals.TheVariants.{Before, During}
use Rattle.mm_problem.specs.declared.fault.Fault as problem
use Rattle.mm_problem.specs.declared.fault.Fault.TheVariants as because
use Rattle.mm_problem.specs.declared.fault.Name.{Name}
use Rattle.mm_problem.specs.declared.fault.Name.TheVariants as name
use Rattle.mm_problem.specs.Changed.{with_arrivals}
use Rattle.mm_problem.specs.Data.{problem_from, limited_by, rows_fit, store_fits, limit_fits, steps_fit, columns_fit}
use Rattle.mm_problem.specs.Document.{stores_counted, limits_counted}
use Rattle.mm_problem.specs.Dumping.{Dumping}
use Rattle.mm_problem.specs.Forecast.{limits_of, some_step}
use Rattle.mm_mission.specs.declared.fault.Fault.{Fault}
use Rattle.mm_mission.specs.declared.fault.Fault.TheVariants.{NoMemory, Problem}
use Rattle.mm_mission.specs.Mission.{MissionRows}
use Rattle.mm_mission.specs.Planned.{row_of, windows, arrived, limited, step_limits, in_range, of_problem, problem_of}
use Rattle.mm_mission.specs.Planned.{IsProblemOf}

-- the problem of data has these data
problem_is : (rows : List StoreRow) (limits : List LimitRow) (windows arrived : List ℕ) (q : Dumping)
    → problem_from rows limits windows arrived ≡ Ok q → record {
      rows = rows;
      limits = limits_of limits;
      windows = windows;
      arrived = arrived;
      limited = [];
      step_limits = [];
      sized = [];
      step_sizes = [];
      come = Before;
    } ≡ q
unfolding problem_from
problem_is rows limits windows arrived q h =
    let counted = bind_ok (stores_counted (length rows)) _ q h in
    let few = bind_ok (limits_counted (length limits)) _ q counted.2 in
    let stores = bind_ok (rows_fit store_fits [] rows) _ q few.2 in
    let channels = bind_ok (rows_fit limit_fits [] limits) _ q stores.2 in
    let steps = bind_ok (steps_fit (length rows) 0 windows arrived) _ q channels.2 in
    let some = bind_ok (some_step (length windows)) _ q steps.2 in
    ok_same _ q some.2

limited_is : (q p : Dumping) (channels limits : List ℕ) → limited_by q channels limits ≡ Ok p
    → record q { limited = channels; step_limits = limits } ≡ p
unfolding limited_by
limited_is q p channels limits h =
    let fit = bind_ok (columns_fit CHANNELS name.Limit (length q.windows) channels limits) _ p h in
    ok_same _ p fit.2

of_problem_ok : {A : Type 0} (r : Result A problem.Fault) (x : A) → of_problem r ≡ Ok x → r ≡ Ok x
of_problem_ok (Ok y) x h = ap Ok (ok_same _ _ h)
of_problem_ok (Err e) x h = absurd (cc)

in_range_is : (name : Name) (cells units : List ℕ) → in_range name cells ≡ Ok units → cells ≡ units
in_range_is name cells units h =
    let within = bind_ok (test (list_all (λ n. nat_le n MAX_BLOCKS) cells) (Problem (because.Limit name))) _ units h in
    ok_same cells units within.2

-- the problem that was made is the mission's
is_problem_of : (m : MissionRows) (edges : List ℕ) (q : Dumping) → problem_of m edges ≡ Ok q → IsProblemOf m edges q
unfolding problem_of
is_problem_of m edges q h =
    let sent = bind_ok (in_range name.Window (windows m edges)) _ q h in
    let come = bind_ok (in_range name.Arrivals (arrived m edges)) _ q sent.2 in
    let limits = bind_ok (in_range name.Limit (step_limits m edges)) _ q come.2 in
    let rows = map row_of m.stores in
    let made = bind_ok (of_problem (problem_from rows [] sent.0 come.0)) _ q limits.2 in
    let p = made.0 in
    let first = problem_is rows [] sent.0 come.0 p (of_problem_ok (problem_from rows [] sent.0 come.0) p made.1) in
    let with_limits = limited_by (with_arrivals p During) (limited m) limits.0 in
    let last = limited_is (with_arrivals p During) q (limited m) limits.0 (of_problem_ok with_limits q made.2) in
    rw (← last, ← first) (record {
      rows = refl;
      windows = sym (in_range_is name.Window (windows m edges) sent.0 sent.1);
      arrived = sym (in_range_is name.Arrivals (arrived m edges) come.0 come.1);
      limited = refl;
      step_limits = sym (in_range_is name.Limit (step_limits m edges) limits.0 limits.1);
      no_limits = refl;
      one_size = refl;
      during = refl;
    })

-- so is the one that was given, if memory did not run out
pub given_is_of : (m : MissionRows) (edges : List ℕ) (r : Result Dumping Fault)
    → Gives NoMemory (λ q. q) r (problem_of m edges) → IfOk r (IsProblemOf m edges)
given_is_of m edges (Ok q) given = is_problem_of m edges q given
given_is_of m edges (Err e) given = tt
