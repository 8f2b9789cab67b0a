-- What no route takes of what a run is given: by the memory of the setup, and by the problem.
use Rattle.std.proofs.Common.{◌≡◌, ℕ, ◌||◌, Bool, not, List, [], ◌∷◌, length, map, refl, sym, ap, ◌∙◌}
use Rattle.std.proofs.Common.{arith}
use Rattle.std.specs.Prelude.{Ok, count_by, filter, slice_index_or}
use Rattle.std.specs.List.{list_any, range_with_len}
use Rattle.std.proofs.lemmas.List.FromFn.{fill_by_all}
use Rattle.mm_base.proofs.Sums.{sum_by-filter, sum_by_ones}
use Rattle.mm_base.specs.declared.rows.RouteRow.{RouteRow}
use Rattle.mm_base.specs.declared.rows.StoreRow.{StoreRow}
use Rattle.mm_problem.specs.Dumping.{no_row}
use Rattle.mm_base.proofs.ReadingSteps.{bind_ok}
use Rattle.mm_problem.specs.Forecast.{Steps, forecast_in, limits_of, problem_of}
use Rattle.mm_problem.specs.Records.{records_of}
use Rattle.mm_problem.specs.Setup.{SetupRows}
use Rattle.mm_plan.specs.Table.{Table}
use Rattle.mm_memory.specs.Holdings.{opened}
use Rattle.mm_memory.specs.Recording.{after_record, is_routed}
use Rattle.mm_carry.specs.Untaken.{given_at, is_taken}
use Rattle.mm_carry.specs.Accounts.{over_steps}
use Rattle.mm_run.specs.Runs.{CountsUntaken, TellsUntaken, opened_with, scripted}
use Rattle.mm_run.specs.Texts.{SaysProblemAndMemory}
use Rattle.mm_run.specs.Types.{Dumping, Holdings, ScriptedSource, SpacePacket}
use Rattle.mm_run.specs.Untaken.{is_untaken}
use Rattle.mm_run.specs.declared.untaken.Unstored.{Unstored}

-- a test of some element, through a map
any_map : {X Y : Type 0} (p : Y → Bool) (make : X → Y) (xs : List X)
    → list_any p (map make xs) ≡ list_any (λ x. p (make x)) xs
any_map p make [] = refl
any_map p make (x ∷ xs) = ap (λ b. p (make x) || b) (any_map p make xs)

-- the problem that has these steps
abbrev problem_with : SetupRows → Steps → Dumping
problem_with rows steps = record {
  rows = rows.stores;
  limits = limits_of rows.limits;
  windows = steps.windows;
  arrived = steps.arrived;
  limited = steps.limited;
  step_limits = steps.step_limits;
  sized = steps.sized;
  step_sizes = steps.step_sizes;
  come = rows.come;
}

-- the problem has the stores of the setup
same_rows : (rows : SetupRows) (forecast : List ℕ) (problem : Dumping) → problem_of rows forecast ≡ Ok problem
    → problem.rows ≡ rows.stores
unfolding problem_of
same_rows rows forecast problem says =
    let (steps, are, last) = bind_ok (forecast_in rows.stores (records_of forecast))
    (λ steps. Ok (problem_with rows steps)) problem says in
    let same : problem_with rows steps ≡ problem = cc in
    ap (λ (q : Dumping). q.rows) (sym same)

-- a test of the identifiers of all stores, by the rows and by the stores of the memory
any_row : (f : List ℕ → Bool) (rows : List StoreRow)
    → list_any (λ s. f (slice_index_or rows s no_row).id) (range_with_len 0 (length rows))
    ≡ list_any (λ h. f h.id) (map opened rows)
any_row f rows =
    let at : ℕ → StoreRow = λ s. slice_index_or rows s no_row in
    let listed = fill_by_all at rows (length rows) no_row refl (λ k within. refl) in
    sym (any_map (λ (r : StoreRow). f r.id) at (range_with_len 0 (length rows)))
    ∙ ap (list_any (λ (r : StoreRow). f r.id)) (sym listed) ∙ sym (any_map (λ h. f h.id) opened rows)

-- packets of step 0 leave the routes
same_routes : (memory : Holdings) (packets : List SpacePacket) → (opened_with memory packets).routes ≡ memory.routes
same_routes memory [] = refl
same_routes memory (p ∷ ps) = same_routes (after_record 0 p memory) ps

-- how many elements pass
passed : {X : Type 0} (p : X → Bool) (xs : List X) → length (filter p xs) ≡ count_by p xs
passed p xs = sym (sum_by_ones (filter p xs)) ∙ sum_by-filter (λ _. 1) p xs

-- the numbers are those of what no route takes in the run
pub tells_untaken : (setup forecast : List ℕ) (problem : Dumping) (memory : Holdings)
    → SaysProblemAndMemory setup forecast problem memory → (opening : List SpacePacket) (sources : List ScriptedSource)
    (n : Unstored) → CountsUntaken (length problem.windows) memory opening sources n → (table : Table)
    → TellsUntaken (scripted problem table (opened_with memory opening) sources) opening n
tells_untaken setup forecast problem memory says opening sources n counts table =
    let m = scripted problem table (opened_with memory opening) sources in
    let all = over_steps (given_at m) (length problem.windows) in
    let stores : memory.stores ≡ map opened says.rows.stores = ap (λ (h : Holdings). h.stores) says.memory_is in
    let same : (p : SpacePacket) → is_untaken memory p ≡ not (is_taken m p) = λ p.
    let f : List ℕ → Bool = λ id. is_routed memory.routes id p in
    ap not (ap (list_any (λ h. f h.id)) stores
    ∙ ap (λ (rows : List StoreRow). list_any (λ h. f h.id) (map opened rows))
    (sym (same_rows says.rows forecast problem says.forecast_says))
    ∙ sym (any_row f problem.rows)
    ∙ ap (λ (routes : List RouteRow). list_any (λ s. is_routed routes (slice_index_or problem.rows s no_row).id p)
    (range_with_len 0 (length problem.rows))) (sym (same_routes memory opening))) in
    let counted : (ps : List SpacePacket) → count_by (is_untaken memory) ps ≡ count_by (λ p. not (is_taken m p)) ps =
    λ ps. λ i. count_by (λ p. same p i) ps in
    omega (arith, counts, counted opening, counted all, passed (λ p. not (is_taken m p)) all)
