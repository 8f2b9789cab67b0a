-- The texts of a mission's problem.
use Rattle.std.proofs.Common.{◌≡◌, ◌∙◌, ℕ, ◌+◌, ◌-◌, ◌<◌, ◌≤◌, List, [], ◌∷◌, refl, ap, arith, length, get_or}
use Rattle.std.specs.Prelude.{All, Ok}
use Rattle.std.specs.List.{flat_map, range_with_len}
use Rattle.std.proofs.Common.{zero, suc, length-append}
use Rattle.std.proofs.lemmas.List.{length-map, get_or-map}
use Rattle.mm_mission.specs.declared.counter.Counter.TheVariants.{Sent}
use Rattle.mm_mission.specs.Mission.{MissionRows, store_at, no_store}
use Rattle.mm_mission.specs.Planned.{row_of, growths, IsProblemOf}
use Rattle.mm_problem.specs.Document.{setup_of}
use Rattle.mm_problem.specs.Dumping.{Dumping, IsDumping, row, no_row}
use Rattle.mm_problem.specs.Laws.{ReadsForecasts}
use Rattle.mm_problem.specs.ReadableForecast.{forecast_of}
use Rattle.mm_problem.specs.Records.{records_of}
use Rattle.mm_problem.specs.Setup.{SetupRows, IsSetup, HasId}
use Rattle.mm_problem.specs.Texts.{SaysProblem}
use Rattle.mm_rest.proofs.RestReads.{texts_said}
use Rattle.std.specs.Prelude.{None}

module _ (m : MissionRows) (edges : List ℕ) (q : Dumping) (of : IsProblemOf m edges q) where
  pub as_many : length q.rows ≡ length m.stores
  as_many = ap length of.rows ∙ length-map m.stores row_of

  -- a store of the problem, by one of the mission
  pub row_is : (s : ℕ) → s < length q.rows → row q s ≡ row_of (store_at m s)
  row_is s below =
      let within : s < length m.stores = omega (arith, as_many) in
      ap (λ rows. get_or rows s no_row) of.rows ∙ get_or-map row_of m.stores s no_store no_row within

  -- no store holds more than its size as the mission begins
  starts_fit : (k : ℕ) (d : _) → k < length q.rows → (get_or q.rows k d).start ≤ (get_or q.rows k d).size
  starts_fit k d below =
      let within : k < length m.stores = omega (arith, as_many) in
      let same : get_or q.rows k d ≡ row_of (store_at m k) =
      ap (λ rows. get_or rows k d) of.rows ∙ get_or-map row_of m.stores k no_store d within in
      rw same (omega arith)

  -- the setup that is printed
  abbrev pub setup_rows : SetupRows
  setup_rows = record { stores = q.rows; routes = []; limits = []; come = q.come }

  pub is_setup : IsDumping q → All HasId q.rows → IsSetup setup_rows
  is_setup is ids = record {
    stores = is.stores;
    starts = starts_fit;
    ids = ids;
    routes = record {
      at_most = omega arith;
      each = λ k d below. absurd (omega arith);
      once = λ i j d before below. absurd (omega arith);
    };
    limits = record {
      at_most = omega arith;
      each = λ k d below. absurd (omega arith);
      once = λ i j d before below. absurd (omega arith);
    };
  }

  pub says : (setup forecast : List ℕ) → ReadsForecasts → IsDumping q → All HasId q.rows
      → setup_of setup ≡ Ok setup_rows → records_of forecast ≡ forecast_of q → SaysProblem setup forecast q
  says setup forecast law is ids read records =
      texts_said setup_rows q setup forecast law of.no_limits (is_setup is ids) is read records

  -- a step lasts from one edge to the next
  one_each : (make : ℕ → List ℕ) → ((t : ℕ) → length (make t) ≡ 1) → (a n : ℕ)
      → length (flat_map make (range_with_len a n)) ≡ n
  one_each make each a zero = refl
  one_each make each a (suc n) = omega (
    arith,
    length-append (make a) (flat_map make (range_with_len (a + 1) n)),
    each a,
    one_each make each (a + 1) n,
  )

  pub as_many_steps : length q.windows ≡ length edges - 1
  as_many_steps =
      ap length of.windows
      ∙ one_each (growths m (Sent None ∷ []) edges) (λ t. refl) 1 (length edges - 1)
