-- The rest of a problem after a step of a plan, and what its texts say.
use Rattle.std.proofs.Common.{◌≡◌, ◌∙◌, ◌+◌, ◌<◌, ◌≤◌, ◌&&◌, ℕ, zero, suc, Bool, true, List, [], ◌∷◌, Ok, refl, sym}
use Rattle.std.proofs.Common.{ap, ap₂, subst}
use Rattle.std.proofs.Common.{arith, get_or, length, map}
use Rattle.std.specs.Prelude.{Contains}
use Rattle.std.specs.List.{list_all, range_with_len}
use Rattle.std.proofs.lemmas.Bool.Decides.{nat_tests}
use Rattle.std.proofs.lemmas.List.FromFn.{get_or-map-range_with_len, length-map-range_with_len}
use Rattle.mm_base.specs.declared.rows.StoreRow.{StoreRow}
use Rattle.mm_problem.specs.Document.{setup_of}
use Rattle.mm_problem.specs.Dumping.{Dumping, IsDumping, no_row, setup_size, stores}
use Rattle.mm_problem.specs.declared.come.Arrivals.{Arrivals}
use Rattle.mm_problem.proofs.RestLaws.{as_many_rows, starts_fit_said}
use Rattle.mm_problem.proofs.StepSizes.{size_within}
use Rattle.mm_plan.proofs.Steps.{left_size}
use Rattle.mm_problem.specs.Forecast.{limits_of}
use Rattle.mm_problem.specs.Laws.{ReadsForecasts}
use Rattle.mm_problem.specs.ReadableForecast.{forecast_of}
use Rattle.mm_problem.specs.Records.{records_of}
use Rattle.mm_problem.specs.Rest.{rest_from, rows_from, starting_with, starts_fit}
use Rattle.mm_problem.specs.Setup.{AreStores, IsSetup, SetupRows}
use Rattle.mm_problem.specs.Texts.{SaysProblem, problem_in}
use Rattle.mm_plan.specs.Volumes.{Amounts, left}
use Rattle.mm_rest.specs.Rests.{held_after, rest_after, setup_for, setup_from}
use Rattle.mm_rest.proofs.ForecastReads.{by_place}

-- ---- the start volumes fit

-- a store holds at most its size after a step
pub left_fits : (q : Dumping) (x : Amounts) (s n : ℕ) → 1 ≤ n → IsDumping q → s < length q.rows
    → left q x s n ≤ setup_size q s
left_fits q x s zero first is store = absurd (omega arith)
left_fits q x s (suc n) first is store =
    let next : n + 1 ≡ suc n = omega arith in
    omega (arith, left_size q x s n (suc n) next, size_within q s (suc n))

all_of_range : (p : ℕ → Bool) (a n : ℕ) → ((s : ℕ) → a ≤ s → s < a + n → p s ≡ true)
    → list_all p (range_with_len a n) ≡ true
all_of_range p a zero each = refl
all_of_range p a (suc n) each = ap₂ (λ b c. b && c) (each a (omega arith) (omega arith))
    (all_of_range p (a + 1) n (λ s low high. each s (omega arith) (omega arith)))

pub held_fits : (q : Dumping) (x : Amounts) (n : ℕ) → 1 ≤ n → IsDumping q
    → starts_fit q.rows (held_after q x n) ≡ true
held_fits q x n first is = all_of_range _ 0 (length q.rows) (λ s low high.
    let store : s < length q.rows = omega arith in
    let held : get_or (held_after q x n) s 0 ≡ left q x s n =
    get_or-map-range_with_len (λ s. left q x s n) 0 (length q.rows) s s 0 store (omega arith) in
    let fits = left_fits q x s n first is store in
    rw held (grind (arith, nat_tests)))

pub as_many_held : (q : Dumping) (x : Amounts) (n : ℕ) → length (held_after q x n) ≡ length q.rows
as_many_held q x n = length-map-range_with_len (λ s. left q x s n) 0 (length q.rows)

-- and so the rest is there
pub rest_is : (q : Dumping) (x : Amounts) (n : ℕ) (held : List ℕ) → 1 ≤ n → IsDumping q → held ≡ held_after q x n
    → rest_from q n held ≡ Ok (rest_after q x n)
unfolding rest_from
rest_is q x n held first is same = rw (same, held_fits q x n first is) refl

-- ---- the setup

map-map : {A B C : Type 0} (f : B → C) (g : A → B) (xs : List A) → map f (map g xs) ≡ map (λ x. f (g x)) xs
map-map f g [] = refl
map-map f g (x ∷ xs) = ap (λ ys. f (g x) ∷ ys) (map-map f g xs)

-- the store at a place
started : (rows : List StoreRow) (starts : List ℕ) (k : ℕ) (d : StoreRow) → k < length rows
    → get_or (rows_from rows starts) k d ≡ starting_with (get_or rows k no_row) (get_or starts k 0)
started rows starts k d below = get_or-map-range_with_len
    (λ s. starting_with (get_or rows s no_row) (get_or starts s 0)) 0 (length rows) k k d below (omega arith)

-- the stores keep their identifiers
pub ids_kept : (rows : List StoreRow) (starts : List ℕ)
    → map (λ (r : StoreRow). r.id) (rows_from rows starts) ≡ map (λ (r : StoreRow). r.id) rows
ids_kept rows starts =
    map-map (λ (r : StoreRow). r.id) (λ s. starting_with (get_or rows s no_row) (get_or starts s 0))
    (range_with_len 0 (length rows))
    ∙ sym (map-map (λ (r : StoreRow). r.id) (λ s. get_or rows s no_row) (range_with_len 0 (length rows)))
    ∙ sym (ap (map (λ (r : StoreRow). r.id)) (by_place no_row rows))

-- the rows of the setup are within all ranges
pub is_setup : (m : SetupRows) (come : Arrivals) (starts : List ℕ) → IsSetup m → AreStores (rows_from m.stores starts)
    → starts_fit m.stores starts ≡ true → IsSetup (setup_from m come starts)
is_setup m come starts is stores fit = record {
  stores = stores;
  starts = λ k d below.
      let within : k < length m.stores = omega (arith, as_many_rows m.stores starts) in
      rw (started m.stores starts k d within) (starts_fit_said m.stores starts fit k within);
  ids = λ k d below.
      let within : k < length m.stores = omega (arith, as_many_rows m.stores starts) in
      rw (started m.stores starts k d within) (is.ids k no_row within);
  routes = record {
    at_most = is.routes.at_most;
    each = λ k d within. record {
      apid = (is.routes.each k d within).apid;
      store = subst (λ ids. Contains ids (get_or m.routes k d).store) (sym (ids_kept m.stores starts))
          (is.routes.each k d within).store;
    };
    once = is.routes.once;
  };
  limits = is.limits;
}

-- ---- the texts

-- the texts of a problem say it
pub texts_said : (m : SetupRows) (q : Dumping) (setup forecast : List ℕ) → ReadsForecasts
    → q.limits ≡ limits_of m.limits → IsSetup (setup_for m q) → IsDumping q
    → setup_of setup ≡ Ok (setup_for m q) → records_of forecast ≡ forecast_of q → SaysProblem setup forecast q
unfolding problem_in
texts_said m q setup forecast law limits is within said records =
    rw said ((law (setup_for m q) is forecast q).1 (record {
      rows = refl;
      limits = limits;
      records = records;
      within = within;
      come = refl;
    }))
