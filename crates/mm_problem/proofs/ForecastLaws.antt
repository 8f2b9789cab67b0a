-- What is read in the records of a forecast, and what they say.
use Rattle.std.proofs.Common.{◌≡◌, ℕ, ◌+◌, ◌*◌, ◌<◌, ◌≤◌, suc, nat_le, nat_lt, ◌==◌, true, List, [], ◌∷◌, ◌++◌, length}
use Rattle.std.proofs.Common.{Ok, refl, sym, ap, subst, ◌∙◌, arith, inl, inr, append_assoc, length-append}
use Rattle.std.specs.Prelude.{All}
use Rattle.std.specs.List.{AllZip, AllByRecursion, range_with_len}
use Rattle.std.proofs.lemmas.Bool.{cases_Bool}
use Rattle.std.proofs.lemmas.Bool.Decides.{nat_tests, Decides-eqb}
use Rattle.std.proofs.lemmas.List.{append-nil}
use Rattle.std.proofs.lemmas.List.Elements.{All-nil, All-cons, All-push, All-append, All-map, recursion_from_All}
use Rattle.std.proofs.lemmas.List.FromFn.{length-map-range_with_len}
use Rattle.mm_problem.specs.declared.fault.Fault.TheVariants.{Limit}
use Rattle.mm_problem.specs.declared.fault.Name.{Name}
use Rattle.mm_problem.specs.declared.fault.Name.TheVariants as name
use Rattle.mm_base.specs.declared.limits.TheConstants.{MAX_STEPS, MAX_BLOCKS, CHANNELS}
use Rattle.mm_base.specs.declared.numbers.Numeral.{Numeral}
use Rattle.mm_base.specs.declared.numbers.Numeral.TheVariants.{NotNumber, TooLarge, Number}
use Rattle.mm_base.specs.declared.rows.LimitRow.{LimitRow}
use Rattle.mm_base.specs.declared.rows.StoreRow.{StoreRow}
use Rattle.mm_problem.specs.Cells.{amount_from, amount_of, step_from}
use Rattle.mm_problem.specs.Dumping.{AreSteps, AreColumns, IsLimit, AreChannels}
use Rattle.mm_problem.specs.Forecast.{Columns, Steps, cell_of, cells_from, amounts_in, next_step, steps_in, no_steps}
use Rattle.mm_problem.specs.Forecast.{some_steps, later_steps, columns_in, forecast_in, limit_of, limits_of}
use Rattle.mm_base.specs.Numbers.{numeral_of}
use Rattle.mm_base.specs.Reading.{test}
use Rattle.mm_problem.specs.Records.{Fields}
use Rattle.mm_problem.specs.Setup.{IsLimitRow}
use Rattle.mm_base.proofs.NumberTexts.{IsNumeral, numeral_said}
use Rattle.mm_base.proofs.ReadingSteps.{bind_ok, test_ok}
use Rattle.mm_base.proofs.IdFields.{Decides-nat_le}
use Rattle.mm_problem.proofs.ForecastCells.{cells_count}
use Rattle.mm_problem.proofs.HeaderLaws.{columns_said}
use Rattle.mm_problem.proofs.NamedColumns.{AreRising}

-- ---- numbers

-- a number that was read is within the bound
pub numeral_fits : (most : ℕ) (text : List ℕ) (n : ℕ) → IsNumeral most text n → n ≤ most
numeral_fits most text n h = (numeral_said most text n h).2

-- an amount that was taken was a number
amount_from_said : (row column : ℕ) (name : Name) (v : Numeral) (n : ℕ) → amount_from row column name v ≡ Ok n → v
    ≡ Number n
amount_from_said row column name NotNumber n h = absurd (cc)
amount_from_said row column name TooLarge n h = absurd (cc)
amount_from_said row column name (Number m) n h = cc

-- an amount that was read is the number in its cell
pub amount_said : (row column : ℕ) (name : Name) (cell : List ℕ) (n : ℕ) → amount_of row column name cell ≡ Ok n
    → IsNumeral MAX_BLOCKS cell n
amount_said row column name cell n h = amount_from_said row column name (numeral_of MAX_BLOCKS cell) n h

-- a step number that passed is the row's
step_from_said : (row : ℕ) (v : Numeral) (u : Unit {0}) → step_from row v ≡ Ok u → v ≡ Number row
step_from_said row NotNumber u h = absurd (cc)
step_from_said row TooLarge u h = absurd (cc)
step_from_said row (Number m) u h = ap Number ((Decides-eqb m row).0 (test_ok _ _ _ h))

-- ---- one step

-- these amounts were in the cells, and stand after earlier ones
pub record AreAmounts (cells : Fields) (earlier all : List ℕ) : Type 0 where
  pub more : List ℕ
  pub behind : all ≡ earlier ++ more
  pub each : AllZip (IsNumeral MAX_BLOCKS) cells more

-- amounts that were read are those in the cells
pub amounts_read_said : (name : Name) (row : ℕ) (cells : Fields) (column : ℕ) (earlier all : List ℕ)
    → amounts_in name row earlier column cells ≡ Ok all → AreAmounts cells earlier all
unfolding amounts_in
amounts_read_said name row [] column earlier all h = let same : earlier
    ≡ all = cc in record { more = []; behind = sym same ∙ sym (append-nil earlier); each = tt }
amounts_read_said name row (cell ∷ cells) column earlier all h =
    let (n, given, rest) = bind_ok _ _ _ h in
    let others = amounts_read_said name row cells (column + 1) (earlier ++ n ∷ []) all rest in
    record {
      more = n ∷ others.more;
      behind = others.behind ∙ append_assoc earlier (n ∷ []) others.more;
      each = (amount_said _ _ _ cell n given, others.each);
    }

-- a test of an order that passed
below_said : (a b : ℕ) → nat_lt a b ≡ true → a < b
below_said a b h = grind (arith, nat_tests)

-- the record says the step after earlier ones
pub record IsNextStep (stores : ℕ) (earlier : Steps) (fields : Fields) (next : Steps) : Type 0 where
  pub as_long : length fields ≡ 2 + stores + length earlier.limited + length earlier.sized
  pub same : next.limited ≡ earlier.limited
  pub same_sized : next.sized ≡ earlier.sized
  pub few : length earlier.windows < MAX_STEPS
  pub numbered : IsNumeral MAX_STEPS (cell_of fields 0) (length earlier.windows + 1)
  pub window : ℕ
  pub spelled : IsNumeral MAX_BLOCKS (cell_of fields 1) window
  pub windows : next.windows ≡ earlier.windows ++ window ∷ []
  pub arrivals : AreAmounts (cells_from fields 2 stores) earlier.arrived next.arrived
  pub limits : AreAmounts (cells_from fields (2 + stores) (length earlier.limited)) earlier.step_limits next.step_limits
  pub sizes : AreAmounts (cells_from fields (2 + stores + length earlier.limited) (length earlier.sized))
      earlier.step_sizes next.step_sizes

-- a step that was read is what the record says
pub next_step_said : (stores : ℕ) (earlier : Steps) (fields : Fields) (next : Steps) → next_step stores earlier fields
    ≡ Ok next → IsNextStep stores earlier fields next
unfolding next_step
next_step_said stores earlier fields next h =
    let (u, long, h1) = bind_ok _ _ _ h in
    let (v, few, h2) = bind_ok _ _ _ h1 in
    let (w, numbered, h3) = bind_ok _ _ _ h2 in
    let (window, spelled, h4) = bind_ok _ _ _ h3 in
    let (arrived, arrivals, h5) = bind_ok _ _ _ h4 in
    let (step_limits, limits, h6) = bind_ok _ _ _ h5 in
    let (step_sizes, sizes, last) = bind_ok _ _ _ h6 in
    let fewer = below_said (length earlier.windows) MAX_STEPS (test_ok _ _ _ few) in
    let steps : Steps = record {
      limited = earlier.limited;
      windows = earlier.windows ++ window ∷ [];
      arrived = arrived;
      step_limits = step_limits;
      sized = earlier.sized;
      step_sizes = step_sizes;
    } in
    let same : steps ≡ next = cc in
    subst (IsNextStep stores earlier fields) same (record {
      as_long = (Decides-eqb (length fields) (2 + stores + length earlier.limited + length earlier.sized)).0 (test_ok
          _ _ _ long);
      same = refl;
      same_sized = refl;
      few = fewer;
      numbered = step_from_said (length earlier.windows + 1) (numeral_of MAX_STEPS (cell_of fields 0)) w numbered;
      window = window;
      spelled = amount_said _ _ _ (cell_of fields 1) window spelled;
      windows = refl;
      arrivals = amounts_read_said name.Arrivals _ (cells_from fields 2 stores) 3 earlier.arrived arrived arrivals;
      limits = amounts_read_said name.Limit _ (cells_from fields (2 + stores) (length earlier.limited)) (2 + stores +
          1) earlier.step_limits step_limits limits;
      sizes = amounts_read_said name.Size _ (cells_from fields (2 + stores + length earlier.limited) (length
          earlier.sized)) (2 + stores + length earlier.limited + 1) earlier.step_sizes step_sizes sizes;
    })

-- ---- the ranges of what was read

-- the numbers of some steps, all in their ranges
pub record AreStepsOf (stores : ℕ) (s : Steps) : Type 0 where
  pub at_most : length s.windows ≤ MAX_STEPS
  pub table : length s.arrived ≡ length s.windows * stores
  pub each_window : All (λ n. n ≤ MAX_BLOCKS) s.windows
  pub each_arrival : All (λ n. n ≤ MAX_BLOCKS) s.arrived
  pub limit_table : length s.step_limits ≡ length s.windows * length s.limited
  pub each_limit : All (λ n. n ≤ MAX_BLOCKS) s.step_limits
  pub size_table : length s.step_sizes ≡ length s.windows * length s.sized
  pub each_size : All (λ n. n ≤ MAX_BLOCKS) s.step_sizes

-- amounts that cells spell
pub amounts_fit : (cells : Fields) (amounts : List ℕ) → AllZip (IsNumeral MAX_BLOCKS) cells amounts
    → All (λ n. n ≤ MAX_BLOCKS) amounts × (length cells ≡ length amounts)
amounts_fit [] [] h = (All-nil (λ n. n ≤ MAX_BLOCKS), refl)
amounts_fit [] (n ∷ ns) h = absurd h
amounts_fit (c ∷ cs) [] h = absurd h
amounts_fit (c ∷ cs) (n ∷ ns) h =
    let others = amounts_fit cs ns h.1 in
    (All-cons (λ n. n ≤ MAX_BLOCKS) n ns (numeral_fits MAX_BLOCKS c n h.0) others.0, ap suc others.1)

-- more amounts keep a table
more_amounts : (cells : Fields) (earlier all : List ℕ) → AreAmounts cells earlier all
    → All (λ n. n ≤ MAX_BLOCKS) earlier → (length all ≡ length earlier + length cells) × All (λ n. n ≤ MAX_BLOCKS) all
more_amounts cells earlier all are so_far =
    let amounts = amounts_fit cells are.more are.each in (
      omega (arith, ap length are.behind, length-append earlier are.more, amounts.1),
      rw are.behind (All-append (λ n. n ≤ MAX_BLOCKS) earlier are.more so_far amounts.0),
    )

-- one more step keeps the ranges
next_fits : (stores : ℕ) (earlier : Steps) (fields : Fields) (next : Steps) → AreStepsOf stores earlier
    → IsNextStep stores earlier fields next → AreStepsOf stores next
next_fits stores earlier fields next so_far this =
    let arrivals = more_amounts _ _ _ this.arrivals so_far.each_arrival in
    let limits = more_amounts _ _ _ this.limits so_far.each_limit in
    let sizes = more_amounts _ _ _ this.sizes so_far.each_size in
    let of_stores = cells_count fields 2 stores (omega (arith, this.as_long)) in
    let of_limits = cells_count fields (2 + stores) (length earlier.limited) (omega (arith, this.as_long)) in
    let of_sizes = cells_count fields (2 + stores + length earlier.limited) (length earlier.sized) (omega (
      arith,
      this.as_long,
    )) in
    let longer : length next.windows ≡ length earlier.windows + 1 = ap length this.windows
    ∙ length-append earlier.windows (this.window ∷ []) in
    record {
      at_most = omega (arith, longer, this.few);
      table = rw (arrivals.0, of_stores, longer, so_far.table) (omega arith);
      each_window = rw this.windows (All-push (λ n. n ≤ MAX_BLOCKS) earlier.windows this.window so_far.each_window
          (numeral_fits MAX_BLOCKS (cell_of fields 1) this.window this.spelled));
      each_arrival = arrivals.1;
      limit_table = rw (limits.0, of_limits, longer, this.same, so_far.limit_table) (omega arith);
      each_limit = limits.1;
      size_table = rw (sizes.0, of_sizes, longer, this.same_sized, so_far.size_table) (omega arith);
      each_size = sizes.1;
    }

-- all steps that are read are within the ranges
steps_fit : (stores : ℕ) (rows : List Fields) (earlier steps : Steps) → AreStepsOf stores earlier
    → steps_in stores earlier rows ≡ Ok steps → AreStepsOf stores steps
unfolding steps_in
steps_fit stores [] earlier steps so_far h = let same : earlier ≡ steps = cc in subst (AreStepsOf stores) same so_far
steps_fit stores (fields ∷ rows) earlier steps so_far h =
    let (next, given, rest) = bind_ok _ _ _ h in
    steps_fit stores rows next steps (next_fits stores earlier fields next so_far (next_step_said stores earlier
    fields next given)) rest

-- the columns of steps
abbrev pub columns_of : Steps → Columns
columns_of s = record { limited = s.limited; sized = s.sized }

-- steps that are read have the columns of those before them
pub same_columns : (stores : ℕ) (rows : List Fields) (earlier steps : Steps) → steps_in stores earlier rows ≡ Ok steps
    → columns_of steps ≡ columns_of earlier
unfolding steps_in
same_columns stores [] earlier steps h = let same : earlier ≡ steps = cc in ap columns_of (sym same)
same_columns stores (fields ∷ rows) earlier steps h =
    let (next, given, rest) = bind_ok _ _ _ h in
    let this = next_step_said stores earlier fields next given in
    same_columns stores rows next steps rest ∙ rw (this.same, this.same_sized) refl

-- records that say steps: the first is the header, the others say the steps, and there is a step
pub record AreParts (stores : List StoreRow) (header : Fields) (rows : List Fields) (steps : Steps) : Type 0 where
  pub columns : columns_in stores header ≡ Ok (columns_of steps)
  pub are : steps_in (length stores) (no_steps (columns_of steps)) rows ≡ Ok steps
  pub some : nat_le 1 (length steps.windows) ≡ true

pub forecast_parts : (stores : List StoreRow) (header : Fields) (rows : List Fields) (steps : Steps)
    → forecast_in stores (header ∷ rows) ≡ Ok steps → AreParts stores header rows steps
unfolding forecast_in some_steps
forecast_parts stores header rows steps h =
    let (columns, named, h1) = bind_ok (columns_in stores header) (λ columns. later_steps (length stores) columns
    rows) steps h in
    let (read, are, h2) = bind_ok (steps_in (length stores) (no_steps columns) rows) some_steps steps h1 in
    let (v, some, last) = bind_ok (test (nat_le 1 (length read.windows)) (Limit name.Steps)) (λ _. Ok read) steps h2 in
    let same : read ≡ steps = cc in
    let own : columns_of read ≡ columns = same_columns (length stores) rows (no_steps columns) read are in
    subst (AreParts stores header rows) same (record {
      columns = named ∙ ap Ok (sym own);
      are = ap (λ cs. steps_in (length stores) (no_steps cs) rows) own ∙ are;
      some = test_ok _ _ _ some;
    })

-- numbers within their ranges for columns that rise are those of a problem
are_columns : (count : ℕ) (windows columns cells : List ℕ) → AreRising count columns
    → length cells ≡ length windows * length columns → All (λ n. n ≤ MAX_BLOCKS) cells
    → AreColumns count windows columns cells
are_columns count windows columns cells are table each = record {
  at_most = are.at_most;
  each_column = are.each;
  rising = are.rising;
  table = table;
  each_cell = each;
}

-- the steps of a forecast that is read are those of a problem
pub forecast_fits : (stores : List StoreRow) (rows : List Fields) (steps : Steps) → forecast_in stores rows ≡ Ok steps
    → AreSteps stores steps.windows steps.arrived × AreColumns CHANNELS steps.windows steps.limited steps.step_limits
    × AreColumns (length stores) steps.windows steps.sized steps.step_sizes
unfolding forecast_in
forecast_fits stores [] steps h = absurd (cc)
forecast_fits stores (header ∷ rows) steps h =
    let parts = forecast_parts stores header rows steps h in
    let columns = columns_said stores header (columns_of steps) parts.columns in
    let none = All-nil (λ n. n ≤ MAX_BLOCKS) in
    let fit = steps_fit (length stores) rows (no_steps (columns_of steps)) steps (record {
      at_most = omega arith;
      table = omega arith;
      each_window = none;
      each_arrival = none;
      limit_table = omega arith;
      each_limit = none;
      size_table = omega arith;
      each_size = none;
    }) parts.are in (
      record {
        has_step = (Decides-nat_le 1 (length steps.windows)).0 parts.some;
        at_most = fit.at_most;
        table = fit.table;
        each_window = fit.each_window;
        each_arrival = fit.each_arrival;
      },
      are_columns CHANNELS steps.windows steps.limited steps.step_limits columns.limits.rise fit.limit_table
          fit.each_limit,
      are_columns (length stores) steps.windows steps.sized steps.step_sizes columns.sizes.rise fit.size_table
          fit.each_size,
    )

-- ---- limits

-- a limit that is found is within its range
found_fits : (channel : ℕ) (limits : List LimitRow) → AllByRecursion IsLimitRow limits
    → IsLimit (limit_of limits channel)
found_fits channel [] each = tt
found_fits channel (r ∷ limits) each = elim (cases_Bool (r.channel == channel)) [
  | inl here ↦ rw here each.0.blocks
  | inr other ↦ rw other (found_fits channel limits each.1)
]

-- the limits of all channels are within their range
pub channels_fit : (limits : List LimitRow) → All IsLimitRow limits → AreChannels (limits_of limits)
channels_fit limits each = record {
  all = length-map-range_with_len (limit_of limits) 0 CHANNELS;
  each = All-map IsLimit (limit_of limits) (range_with_len 0 CHANNELS) (λ k d within. found_fits _ limits
      (recursion_from_All IsLimitRow limits each));
}
