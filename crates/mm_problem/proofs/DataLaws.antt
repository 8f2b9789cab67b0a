-- Data that are tested, one row, amount or step after the other.
use Rattle.std.proofs.Common.{◌≡◌, ℕ, ◌+◌, ◌*◌, ◌<◌, ◌≤◌, true, nat_le, nat_lt, ◌==◌, List, [], ◌∷◌, ◌++◌, length}
use Rattle.std.proofs.Common.{get_or, take, drop, refl, subst, arith, append_assoc, length-drop, Result, Ok, Err}
use Rattle.std.specs.Prelude.{All, AllPairs}
use Rattle.std.specs.List.{list_all}
use Rattle.std.proofs.lemmas.Bool.{and_parts}
use Rattle.std.proofs.lemmas.Bool.Decides.{nat_tests, Decides-eqb, Decides-by_and}
use Rattle.std.proofs.lemmas.List.{drop_more, drop_all, take_more, append-nil, take-append-drop}
use Rattle.std.proofs.lemmas.List.Elements.{All-nil, All-cons, All-push, All-append}
use Rattle.std.proofs.lemmas.List.Quantifiers.{all_pairs_push}
use Rattle.mm_problem.specs.declared.fault.Fault.{Fault}
use Rattle.mm_problem.specs.declared.fault.Fault.TheVariants.{ForecastText}
use Rattle.mm_problem.specs.declared.fault.Name.{Name}
use Rattle.mm_problem.specs.declared.fault.Name.TheVariants as name
use Rattle.mm_base.specs.declared.limits.TheConstants.{MAX_STORES, MAX_STEPS, MAX_BLOCKS}
use Rattle.mm_base.specs.declared.rows.LimitRow.{LimitRow}
use Rattle.mm_base.specs.declared.rows.StoreRow.{StoreRow}
use Rattle.mm_base.specs.Reading.{test}
use Rattle.mm_base.proofs.IdFields.{Decides-nat_le}
use Rattle.mm_problem.specs.Data.{store_fits, limit_fits, rows_fit, amounts_fit, step_fits, steps_fit, column_fits}
use Rattle.mm_problem.specs.Data.{columns_fit}
use Rattle.mm_problem.specs.Document.{stores_counted}
use Rattle.mm_problem.specs.Dumping.{AreSteps, AreColumns}
use Rattle.mm_problem.specs.Forecast.{some_step}
use Rattle.mm_problem.specs.Setup.{IsStoreRow, HaveOtherIds, AreStores, IsLimitRow, HaveOtherChannels}
use Rattle.mm_base.proofs.ReadingSteps.{bind_ok, test_ok}
use Rattle.mm_problem.proofs.ColumnLaws.{below_decides}
use Rattle.mm_problem.proofs.FieldLaws.{within_said}
use Rattle.mm_problem.proofs.RowLaws.{none_apart}
use Rattle.mm_problem.proofs.TableLaws.{new_store_said, new_limit_said}

-- ---- one after the other

module _ {R : Type 0} (fits : List R → R → Result (Unit {0}) Fault) (rows : List R) (i : ℕ) where
  -- after the last row nothing is left to test
  pub no_row_left : length rows ≤ i → rows_fit fits (take i rows) (drop i rows) ≡ Ok tt
  unfolding rows_fit
  no_row_left past = rw (drop_all i rows past) refl

  module _ (row : R) (below : i < length rows) (is : row ≡ get_or rows i row) where
    -- where the row at a place passes, what is left are the tests of those after it
    pub row_passed : fits (take i rows) row ≡ Ok tt
        → rows_fit fits (take i rows) (drop i rows) ≡ rows_fit fits (take (i + 1) rows) (drop (i + 1) rows)
    unfolding rows_fit
    row_passed given = rw (drop_more rows i row below, take_more rows i row below, ← is, given) refl

    -- a fault of it is the fault of all
    pub row_fault : (e : Fault) → fits (take i rows) row ≡ Err e → rows_fit fits (take i rows) (drop i rows) ≡ Err e
    unfolding rows_fit
    row_fault e given = rw (drop_more rows i row below, ← is, given) refl

module _ (stores i : ℕ) (windows left : List ℕ) where
  -- after the last window no arrival may be left
  pub no_step_left : length windows ≤ i
      → steps_fit stores i (drop i windows) left ≡ test (length left == 0) ForecastText
  unfolding steps_fit
  no_step_left past = rw (drop_all i windows past) refl

  module _ (below : i < length windows) where
    -- where there are too few arrivals for the step, that is the fault of all
    pub step_short : (e : Fault) → test (nat_le stores (length left)) ForecastText ≡ Err e
        → steps_fit stores i (drop i windows) left ≡ Err e
    unfolding steps_fit
    step_short e given = rw (drop_more windows i 0 below, given) refl

    module _ (as_long : test (nat_le stores (length left)) ForecastText ≡ Ok tt) where
      -- where the step passes, what is left are the tests of those after it
      pub step_passed : step_fits i (get_or windows i 0) (take stores left) ≡ Ok tt → steps_fit stores i
          (drop i windows) left ≡ steps_fit stores (i + 1) (drop (i + 1) windows) (drop stores left)
      unfolding steps_fit
      step_passed given = rw (drop_more windows i 0 below, as_long, given) refl

      -- a fault of it is the fault of all
      pub step_fault : (e : Fault) → step_fits i (get_or windows i 0) (take stores left) ≡ Err e
          → steps_fit stores i (drop i windows) left ≡ Err e
      unfolding steps_fit
      step_fault e given = rw (drop_more windows i 0 below, as_long, given) refl

-- ---- what passed

-- rows that passed are each in its range, and differ from one another
module _ {R : Type 0} (P : R → Type 0) (D : R → R → Type 0) (fits : List R → R → Result (Unit {0}) Fault)
    (said : (earlier : List R) (row : R) (u : Unit {0}) → fits earlier row ≡ Ok u → P row × All (λ e. D e row) earlier)
  where
    rows_fit_said : (rows earlier : List R) (u : Unit {0}) → All P earlier → AllPairs D earlier
        → rows_fit fits earlier rows ≡ Ok u → All P (earlier ++ rows) × AllPairs D (earlier ++ rows)
    unfolding rows_fit
    rows_fit_said [] earlier u each apart h = rw (append-nil earlier) (each, apart)
    rows_fit_said (row ∷ rows) earlier u each apart h =
        let (v, given, rest) = bind_ok _ _ _ h in
        let this = said earlier row v given in
        let all = rows_fit_said rows (earlier ++ row ∷ []) u (All-push P earlier row each this.0)
        (all_pairs_push D earlier row apart this.1) rest in
        rw (append_assoc earlier (row ∷ []) rows) at all

-- a store that passed
store_fits_said : (earlier : List StoreRow) (row : StoreRow) (u : Unit {0}) → store_fits earlier row ≡ Ok u
    → IsStoreRow row × All (λ e. HaveOtherIds e row) earlier
unfolding store_fits
store_fits_said earlier row u h =
    let (size, size_fits, h1) = bind_ok _ _ _ h in
    let (channel, channel_fits, h2) = bind_ok _ _ _ h1 in
    let (start, start_fits, new) = bind_ok _ _ _ h2 in
    let size_is = within_said _ _ _ _ row.size size_fits in
    let channel_is = within_said _ _ _ _ row.channel channel_fits in
    let start_is = within_said _ _ _ _ row.start start_fits in (
      record {
        has_room = size_is.1;
        size = size_is.2;
        start = omega (arith, start_is.2, size_is.2);
        channel = channel_is.2;
      },
      new_store_said earlier row u new,
    )

-- a limit that passed
limit_fits_said : (earlier : List LimitRow) (row : LimitRow) (u : Unit {0}) → limit_fits earlier row ≡ Ok u
    → IsLimitRow row × All (λ e. HaveOtherChannels e row) earlier
unfolding limit_fits
limit_fits_said earlier row u h =
    let (channel, channel_fits, h1) = bind_ok _ _ _ h in
    let (blocks, blocks_fit, new) = bind_ok _ _ _ h1 in
    let channel_is = within_said _ _ _ _ row.channel channel_fits in
    let blocks_are = within_said _ _ _ _ row.blocks blocks_fit in
    (record { channel = channel_is.2; blocks = blocks_are.2 }, new_limit_said earlier row u new)

-- stores that passed are those of a problem
pub stores_said : (rows : List StoreRow) (u v : Unit {0}) → stores_counted (length rows) ≡ Ok u
    → rows_fit store_fits [] rows ≡ Ok v → AreStores rows
stores_said rows u v counted passed =
    let (some, few) = and_parts (nat_le 1 (length rows)) (nat_le (length rows) MAX_STORES) (test_ok _ _ _ counted) in
    let all = rows_fit_said IsStoreRow HaveOtherIds store_fits store_fits_said rows [] v (All-nil IsStoreRow)
    (none_apart HaveOtherIds) passed in
    record {
      has_store = (Decides-nat_le 1 (length rows)).0 some;
      at_most = (Decides-nat_le (length rows) MAX_STORES).0 few;
      each = all.0;
      named = all.1;
    }

-- limits that passed are within their ranges
pub limits_said : (rows : List LimitRow) (u : Unit {0}) → rows_fit limit_fits [] rows ≡ Ok u → All IsLimitRow rows
limits_said rows u passed =
    (rows_fit_said IsLimitRow HaveOtherChannels limit_fits limit_fits_said rows [] u (All-nil IsLimitRow)
    (none_apart HaveOtherChannels) passed).0

-- amounts that passed are within their range
amounts_said : (name : Name) (amounts : List ℕ) (u : Unit {0}) → amounts_fit name amounts ≡ Ok u
    → All (λ n. n ≤ MAX_BLOCKS) amounts
amounts_said name amounts u h =
    (Decides-by_and (λ n. nat_le n MAX_BLOCKS) (λ n. n ≤ MAX_BLOCKS) (list_all (λ n. nat_le n MAX_BLOCKS))
    (λ n. Decides-nat_le n MAX_BLOCKS) refl (λ _ _. refl) amounts).0 (test_ok _ _ _ h)

-- what is known of steps that passed, after earlier ones
record AreStepsAfter (stores earlier : ℕ) (windows arrived : List ℕ) : Type 0 where
  pub at_most : earlier + length windows ≤ MAX_STEPS
  pub table : length arrived ≡ length windows * stores
  pub each_window : All (λ n. n ≤ MAX_BLOCKS) windows
  pub each_arrival : All (λ n. n ≤ MAX_BLOCKS) arrived

-- no arrivals
none_left : (arrived : List ℕ) → (length arrived == 0) ≡ true → arrived ≡ []
none_left [] h = refl
none_left (n ∷ more) h = absurd (omega (arith, (Decides-eqb (length (n ∷ more)) 0).0 h))

steps_fit_said : (stores : ℕ) (windows : List ℕ) (earlier : ℕ) (arrived : List ℕ) (u : Unit {0}) → earlier ≤ MAX_STEPS
    → steps_fit stores earlier windows arrived ≡ Ok u → AreStepsAfter stores earlier windows arrived
unfolding steps_fit step_fits
steps_fit_said stores [] earlier arrived u few h =
    let none = none_left arrived (test_ok _ _ _ h) in
    rw none (record {
      at_most = omega arith;
      table = omega arith;
      each_window = All-nil (λ n. n ≤ MAX_BLOCKS);
      each_arrival = All-nil (λ n. n ≤ MAX_BLOCKS);
    })
steps_fit_said stores (window ∷ windows) earlier arrived u few h =
    let (a, as_long, h1) = bind_ok _ _ _ h in
    let (b, step, rest) = bind_ok _ _ _ h1 in
    let (c, another, h2) = bind_ok _ _ _ step in
    let (n, window_fits, arrivals) = bind_ok _ _ _ h2 in
    let fewer : nat_lt earlier MAX_STEPS ≡ true = test_ok _ _ _ another in
    let below : earlier < MAX_STEPS = grind (arith, nat_tests) in
    let enough : stores ≤ length arrived = (Decides-nat_le stores (length arrived)).0 (test_ok _ _ _ as_long) in
    let others = steps_fit_said stores windows (earlier + 1) (drop stores arrived) u (omega arith) rest in
    let here = amounts_said name.Arrivals (take stores arrived) b arrivals in
    record {
      at_most = omega (arith, others.at_most);
      table = omega (arith, others.table, length-drop stores arrived);
      each_window = All-cons (λ n. n ≤ MAX_BLOCKS) window windows (within_said _ _ _ _ window window_fits).2
          others.each_window;
      each_arrival = subst (All (λ n. n ≤ MAX_BLOCKS)) (take-append-drop stores arrived)
          (All-append (λ n. n ≤ MAX_BLOCKS) (take stores arrived) (drop stores arrived) here others.each_arrival);
    }

-- steps that passed are those of a problem
pub steps_said : (rows : List StoreRow) (windows arrived : List ℕ) (u v : Unit {0}) → steps_fit
    (length rows) 0 windows arrived ≡ Ok u → some_step (length windows) ≡ Ok v → AreSteps rows windows arrived
steps_said rows windows arrived u v passed some =
    let all = steps_fit_said (length rows) windows 0 arrived u (omega arith) passed in
    record {
      has_step = (Decides-nat_le 1 (length windows)).0 (test_ok _ _ _ some);
      at_most = omega (arith, all.at_most);
      table = all.table;
      each_window = all.each_window;
      each_arrival = all.each_arrival;
    }

-- where there are no columns
pub no_columns : (count : ℕ) (windows : List ℕ) → AreColumns count windows [] []
no_columns count windows = record {
  at_most = omega arith;
  each_column = All-nil (λ c. c < count);
  rising = none_apart ◌<◌;
  table = omega arith;
  each_cell = All-nil (λ n. n ≤ MAX_BLOCKS);
}

-- a column that passed
column_fits_said : (count : ℕ) (earlier : List ℕ) (column : ℕ) (u : Unit {0}) → column_fits count earlier column ≡ Ok u
    → (column < count) × All (λ e. e < column) earlier
column_fits_said count earlier column u h =
    let (there, above) =
    and_parts (nat_lt column count) (list_all (λ c. nat_lt c column) earlier) (test_ok _ _ _ h) in
    (grind (arith, nat_tests, there), (below_decides column earlier).0 above)

-- columns that passed are those of a problem
pub columns_said : (count : ℕ) (name : Name) (windows columns cells : List ℕ) (u : Unit {0})
    → columns_fit count name (length windows) columns cells ≡ Ok u → AreColumns count windows columns cells
unfolding columns_fit
columns_said count name windows columns cells u h =
    let n = length windows * length columns in
    let (a, few, h1) = bind_ok _ _ _ h in
    let (b, each, h2) = bind_ok _ _ _ h1 in
    let (c, as_long, amounts) = bind_ok _ _ _ h2 in
    let all = rows_fit_said (λ c. c < count) ◌<◌ (column_fits count) (column_fits_said count) columns [] b
    (All-nil (λ c. c < count)) (none_apart ◌<◌) each in
    record {
      at_most = (Decides-nat_le (length columns) count).0 (test_ok _ _ _ few);
      each_column = all.0;
      rising = all.1;
      table = (Decides-eqb (length cells) n).0 (test_ok _ _ _ as_long);
      each_cell = amounts_said name cells u amounts;
    }
