-- The records of a forecast are those of its problem, spelled out.
use Rattle.std.proofs.Common.{◌≡◌, ℕ, ◌+◌, ◌*◌, ◌<◌, ◌≤◌, zero, suc, nat_lt, ◌==◌, true, List, [], ◌∷◌, ◌++◌, length}
use Rattle.std.proofs.Common.{get_or, map, take, drop, Ok, refl, sym, ap, subst, ◌∙◌, arith, append_assoc}
use Rattle.std.proofs.Common.{length-append, length-drop}
use Rattle.std.proofs.Math.Nat.{mul-le-mul_left}
use Rattle.std.specs.Prelude.{All}
use Rattle.std.specs.Fmt.{decimal}
use Rattle.std.specs.List.{AllZip, AllByRecursion, range_with_len}
use Rattle.std.proofs.lemmas.Bool.Decides.{Decides-eqb, nat_tests}
use Rattle.std.proofs.lemmas.List.{append-nil, length-map, drop_at, drop_more, drop_all, take_all}
use Rattle.std.proofs.lemmas.List.{length-take-le, take-append-drop, drop-drop, get_or-take, get_or-drop}
use Rattle.std.proofs.lemmas.Simd.{map-map}
use Rattle.std.proofs.lemmas.List.Elements.{recursion_from_All, All-head, All-tail, All-take, All-drop}
use Rattle.std.proofs.lemmas.List.FromFn.{fill_by_all}
use Rattle.std.proofs.Math.Seq.{take-append_seam}
use Rattle.mm_base.specs.declared.limits.TheConstants.{MAX_STEPS, MAX_BLOCKS}
use Rattle.mm_base.specs.Grid.{cell}
use Rattle.mm_problem.specs.Dumping.{Dumping, window, steps, IsDumping, AreColumns}
use Rattle.mm_problem.specs.ReadableForecast.{limit_text, size_text, record_of, IsReadableForecast}
use Rattle.mm_problem.specs.Forecast.{Columns, Steps, header_of, cell_of, cells_from, amounts_in, next_step, steps_in}
use Rattle.mm_problem.specs.Forecast.{no_steps, some_steps, forecast_in, limits_of, problem_of}
use Rattle.mm_problem.specs.declared.fault.Name.{Name}
use Rattle.mm_problem.specs.declared.fault.Name.TheVariants as name
use Rattle.mm_problem.specs.Records.{Fields, records_of}
use Rattle.mm_problem.specs.Setup.{SetupRows, IsSetup, HasId}
use Rattle.mm_problem.proofs.ForecastCells.{cells_count}
use Rattle.mm_problem.proofs.HeaderLaws.{columns_said, columns_read}
use Rattle.mm_problem.proofs.NamedColumns.{AreRising}
use Rattle.mm_problem.proofs.ForecastLaws.{IsNextStep, next_step_said, amounts_fit, columns_of, forecast_parts}
use Rattle.mm_problem.proofs.ForecastLaws.{forecast_fits, channels_fit}
use Rattle.mm_base.proofs.IdFields.{Decides-nat_le}
use Rattle.mm_base.proofs.NumberTexts.{IsNumeral, numeral_printed, printed_numeral}
use Rattle.mm_base.proofs.ReadingSteps.{bind_ok}

-- the records of steps from a number on
abbrev pub step_rows : ℕ → ℕ → ℕ → ℕ → List ℕ → List ℕ → List ℕ → List ℕ → List Fields
step_rows stores columns sizes number [] arrived limits step_sizes = []
step_rows stores columns sizes number (w ∷ ws) arrived limits step_sizes =
    (decimal number ∷ decimal w ∷ map decimal (take stores arrived) ++ (map decimal (take columns limits)
    ++ map decimal (take sizes step_sizes)))
    ∷ step_rows stores columns sizes (number + 1) ws (drop stores arrived) (drop columns limits) (drop sizes step_sizes)

-- ---- what was read was spelled

-- cells that are numbers are what the numbers are printed as
cells_printed : (cells : Fields) (amounts : List ℕ) → AllZip (IsNumeral MAX_BLOCKS) cells amounts → cells
    ≡ map decimal amounts
cells_printed [] [] h = refl
cells_printed [] (n ∷ ns) h = absurd h
cells_printed (c ∷ cs) [] h = absurd h
cells_printed (c ∷ cs) (n ∷ ns) h =
    let this = numeral_printed MAX_BLOCKS c n (omega arith) h.0 in
    let others = cells_printed cs ns h.1 in
    cc

-- the cells after the first two and some more
after_two : (a b : List ℕ) (rest : Fields) (n : ℕ) → drop (2 + n) (a ∷ b ∷ rest) ≡ drop n rest
after_two a b rest n = sym (drop-drop n 2 (a ∷ b ∷ rest) ∙ ap (λ j. drop j (a ∷ b ∷ rest)) (omega arith))

-- a record that is long enough has two cells, and those of the stores, the limits and the sizes
five_parts : (fields : Fields) (n m k : ℕ) → length fields ≡ 2 + n + m + k
    → fields ≡ cell_of fields 0 ∷ cell_of fields 1 ∷ cells_from fields 2 n ++ (cells_from fields (2 + n) m
    ++ cells_from fields (2 + n + m) k)
five_parts [] n m k long = absurd (omega arith)
five_parts (a ∷ []) n m k long = absurd (omega arith)
five_parts (a ∷ b ∷ rest) n m k long =
    let behind : drop (2 + n + m) (a ∷ b ∷ rest) ≡ drop m (drop n rest) =
    sym (drop-drop m (2 + n) (a ∷ b ∷ rest)) ∙ ap (drop m) (after_two a b rest n) in
    let all : take k (drop m (drop n rest)) ≡ drop m (drop n rest) =
    take_all k (drop m (drop n rest)) (omega (arith, length-drop m (drop n rest), length-drop n rest)) in
    let split : drop n rest ≡ take m (drop n rest) ++ take k (drop m (drop n rest)) =
    sym (take-append-drop m (drop n rest)) ∙ ap (λ fs. take m (drop n rest) ++ fs) (sym all) in
    rw (behind, after_two a b rest n)
    (ap (λ fs. a ∷ b ∷ fs) (sym (take-append-drop n rest) ∙ ap (λ fs. take n rest ++ fs) split))

-- the records that were read, after earlier steps
pub record AreStepRows (stores : ℕ) (rows : List Fields) (earlier steps : Steps) : Type 0 where
  pub windows : List ℕ
  pub arrived : List ℕ
  pub limits : List ℕ
  pub sizes : List ℕ
  pub windows_behind : steps.windows ≡ earlier.windows ++ windows
  pub arrived_behind : steps.arrived ≡ earlier.arrived ++ arrived
  pub limits_behind : steps.step_limits ≡ earlier.step_limits ++ limits
  pub sizes_behind : steps.step_sizes ≡ earlier.step_sizes ++ sizes
  pub spelled : rows ≡ step_rows stores (length earlier.limited) (length earlier.sized) (length earlier.windows + 1)
      windows arrived limits sizes

-- a record that was read is its step, spelled out
pub record IsPrinted (stores : ℕ) (earlier : Steps) (fields : Fields) (window : ℕ) (arrivals limits sizes : List ℕ)
    : Type 0 where
  pub spelled : fields ≡ decimal (length earlier.windows + 1) ∷ decimal window ∷ map decimal arrivals
      ++ (map decimal limits ++ map decimal sizes)
  pub arrivals_count : length arrivals ≡ stores
  pub limits_count : length limits ≡ length earlier.limited
  pub sizes_count : length sizes ≡ length earlier.sized

row_printed : (stores : ℕ) (earlier next : Steps) (fields : Fields) (this : IsNextStep stores earlier fields next)
    → IsPrinted stores earlier fields this.window this.arrivals.more this.limits.more this.sizes.more
row_printed stores earlier next fields this =
    let m = length earlier.limited in
    let k = length earlier.sized in
    let arrival_cells = cells_from fields 2 stores in
    let limit_cells = cells_from fields (2 + stores) m in
    let size_cells = cells_from fields (2 + stores + m) k in
    let number = (numeral_printed MAX_STEPS (cell_of fields 0) (length earlier.windows + 1) (omega arith)
    this.numbered).0 in
    let window = (numeral_printed MAX_BLOCKS (cell_of fields 1) this.window (omega arith) this.spelled).0 in
    let amounts = cells_printed arrival_cells this.arrivals.more this.arrivals.each in
    let limits = cells_printed limit_cells this.limits.more this.limits.each in
    let sizes = cells_printed size_cells this.sizes.more this.sizes.each in
    let amounts_are = amounts_fit arrival_cells this.arrivals.more this.arrivals.each in
    let limits_are = amounts_fit limit_cells this.limits.more this.limits.each in
    let sizes_are = amounts_fit size_cells this.sizes.more this.sizes.each in
    let long = this.as_long in
    record {
      spelled = five_parts fields stores m k long ∙ rw (number, window, amounts, limits, sizes) refl;
      arrivals_count = omega (arith, amounts_are.1, cells_count fields 2 stores (omega (arith, long)));
      limits_count = omega (arith, limits_are.1, cells_count fields (2 + stores) m (omega (arith, long)));
      sizes_count = omega (arith, sizes_are.1, cells_count fields (2 + stores + m) k (omega (arith, long)));
    }

-- the first of two lists, and the second
front_of : {X : Type 0} (n : ℕ) (xs ys : List X) → length xs ≡ n → take n (xs ++ ys) ≡ xs
front_of n xs ys is = ap (λ k. take k (xs ++ ys)) (sym is) ∙ take-append_seam xs ys

-- the records of steps depend on the numbers of columns and the number of the first step
same_rows : (stores : ℕ) (m m2 k k2 number number2 : ℕ) (ws arrived limits sizes : List ℕ) → m ≡ m2 → k ≡ k2
    → number ≡ number2 → step_rows stores m k number ws arrived limits sizes
    ≡ step_rows stores m2 k2 number2 ws arrived limits sizes
same_rows stores m m2 k k2 number number2 ws arrived limits sizes columns sized numbered =
    rw (columns, sized, numbered) refl

-- records that were read are their steps, spelled out
pub steps_printed : (stores : ℕ) (rows : List Fields) (earlier steps : Steps) → steps_in stores earlier rows
    ≡ Ok steps → AreStepRows stores rows earlier steps
unfolding steps_in
steps_printed stores [] earlier steps h =
    let same : earlier ≡ steps = cc in
    subst (AreStepRows stores [] earlier) same (record {
      windows = [];
      arrived = [];
      limits = [];
      sizes = [];
      windows_behind = sym (append-nil earlier.windows);
      arrived_behind = sym (append-nil earlier.arrived);
      limits_behind = sym (append-nil earlier.step_limits);
      sizes_behind = sym (append-nil earlier.step_sizes);
      spelled = refl;
    })
steps_printed stores (fields ∷ rows) earlier steps h =
    let (next, given, rest) = bind_ok (next_step stores earlier fields) (λ s. steps_in stores s rows) steps h in
    let this = next_step_said stores earlier fields next given in
    let others = steps_printed stores rows next steps rest in
    let printed = row_printed stores earlier next fields this in
    let more = this.arrivals.more in
    let own = this.limits.more in
    let room = this.sizes.more in
    let m = length earlier.limited in
    let k = length earlier.sized in
    let number = length earlier.windows + 1 in
    let longer : length next.windows + 1 ≡ number + 1 = omega (
      arith,
      ap length this.windows,
      length-append earlier.windows (this.window ∷ []),
    ) in
    let behind : rows ≡ step_rows stores m k (number + 1) others.windows others.arrived others.limits others.sizes =
    others.spelled ∙ same_rows stores (length next.limited) m (length next.sized) k (length next.windows + 1) (number
    + 1)
    others.windows others.arrived others.limits others.sizes (ap length this.same) (ap length this.same_sized) longer in
    record {
      windows = this.window ∷ others.windows;
      arrived = more ++ others.arrived;
      limits = own ++ others.limits;
      sizes = room ++ others.sizes;
      windows_behind = others.windows_behind ∙ ap (λ ws. ws ++ others.windows) this.windows
          ∙ append_assoc earlier.windows (this.window ∷ []) others.windows;
      arrived_behind = others.arrived_behind ∙ ap (λ as'. as' ++ others.arrived) this.arrivals.behind
          ∙ append_assoc earlier.arrived more others.arrived;
      limits_behind = others.limits_behind ∙ ap (λ ls. ls ++ others.limits) this.limits.behind
          ∙ append_assoc earlier.step_limits own others.limits;
      sizes_behind = others.sizes_behind ∙ ap (λ ls. ls ++ others.sizes) this.sizes.behind
          ∙ append_assoc earlier.step_sizes room others.sizes;
      spelled = rw (
        front_of stores more others.arrived printed.arrivals_count,
        drop_at more others.arrived stores printed.arrivals_count,
        front_of m own others.limits printed.limits_count,
        drop_at own others.limits m printed.limits_count,
        front_of k room others.sizes printed.sizes_count,
        drop_at room others.sizes k printed.sizes_count,
      ) (ap (λ f. f ∷ rows) printed.spelled ∙ ap (λ r. (decimal number ∷ decimal this.window ∷ map decimal more ++
          (map decimal own ++ map decimal room)) ∷ r) behind);
    }

-- ---- what is spelled is read

-- amounts that are printed are read
amounts_read : (name : Name) (row : ℕ) (amounts : List ℕ) (column : ℕ) (earlier : List ℕ)
    → AllByRecursion (λ n. n ≤ MAX_BLOCKS) amounts → amounts_in name row earlier column (map decimal amounts)
    ≡ Ok (earlier ++ amounts)
unfolding amounts_in
amounts_read name row [] column earlier fit = ap Ok (sym (append-nil earlier))
amounts_read name row (n ∷ ns) column earlier fit =
    rw (printed_numeral MAX_BLOCKS n (omega arith) fit.0) (amounts_read name row ns (column + 1) (earlier ++ n ∷ [])
    fit.1 ∙ ap Ok (append_assoc earlier (n ∷ []) ns))

-- amounts of one step, within their range
pub record AreAmountsOf (count : ℕ) (amounts : List ℕ) : Type 0 where
  pub many : length amounts ≡ count
  pub each : AllByRecursion (λ n. n ≤ MAX_BLOCKS) amounts

-- the cells of amounts after those of other amounts
module _ (a b : List ℕ) (xs ys zs : List ℕ) (n m k : ℕ) (first : length xs ≡ n) (second : length ys ≡ m)
    (third : length zs ≡ k)
  where
    pub cells_long : length (map decimal xs ++ (map decimal ys ++ map decimal zs)) ≡ n + m + k
    cells_long = omega (
      arith,
      length-append (map decimal xs) (map decimal ys ++ map decimal zs),
      length-append (map decimal ys) (map decimal zs),
      length-map xs decimal,
      length-map ys decimal,
      length-map zs decimal,
      first,
      second,
      third,
    )

    pub first_cells : take n (map decimal xs ++ (map decimal ys ++ map decimal zs)) ≡ map decimal xs
    first_cells = front_of n (map decimal xs) (map decimal ys ++ map decimal zs) (length-map xs decimal ∙ first)

    later_cells : drop n (map decimal xs ++ (map decimal ys ++ map decimal zs)) ≡ map decimal ys ++ map decimal zs
    later_cells = drop_at (map decimal xs) (map decimal ys ++ map decimal zs) n (length-map xs decimal ∙ first)

    pub second_cells : take m (drop (2 + n) (a ∷ b ∷ map decimal xs ++ (map decimal ys ++ map decimal zs)))
        ≡ map decimal ys
    second_cells = ap (take m) (after_two a b (map decimal xs ++ (map decimal ys ++ map decimal zs)) n ∙ later_cells)
        ∙ front_of m (map decimal ys) (map decimal zs) (length-map ys decimal ∙ second)

    pub third_cells : take k (drop (2 + n + m) (a ∷ b ∷ map decimal xs ++ (map decimal ys ++ map decimal zs)))
        ≡ map decimal zs
    third_cells =
        ap (take k) (sym (drop-drop m (2 + n) (a ∷ b ∷ map decimal xs ++ (map decimal ys ++ map decimal zs)))
        ∙ ap (drop m) (after_two a b (map decimal xs ++ (map decimal ys ++ map decimal zs)) n ∙ later_cells)
        ∙ drop_at (map decimal ys) (map decimal zs) m (length-map ys decimal ∙ second))
        ∙ take_all k (map decimal zs) (omega (arith, length-map zs decimal, third))

-- the record of a step is read as the step
step_read : (stores w : ℕ) (amounts limits sizes : List ℕ) (earlier : Steps) → length earlier.windows < MAX_STEPS
    → w ≤ MAX_BLOCKS → AreAmountsOf stores amounts → AreAmountsOf (length earlier.limited) limits
    → AreAmountsOf (length earlier.sized) sizes
    → next_step stores earlier (decimal (length earlier.windows + 1) ∷ decimal w ∷ map decimal amounts ++ (map decimal
    limits ++ map decimal sizes))
    ≡ Ok (record {
      limited = earlier.limited;
      windows = earlier.windows ++ w ∷ [];
      arrived = earlier.arrived ++ amounts;
      step_limits = earlier.step_limits ++ limits;
      sized = earlier.sized;
      step_sizes = earlier.step_sizes ++ sizes;
    })
unfolding next_step
step_read stores w amounts limits sizes earlier few fits arrive are room =
    let m = length earlier.limited in
    let k = length earlier.sized in
    let number = length earlier.windows + 1 in
    let cells = map decimal amounts ++ (map decimal limits ++ map decimal sizes) in
    let all_long = cells_long (decimal number) (decimal w) amounts limits sizes stores m k arrive.many are.many
    room.many in
    let long : (suc (suc (length cells)) == (2 + stores + m + k)) ≡ true =
    (Decides-eqb (suc (suc (length cells))) (2 + stores + m + k)).1 (omega (arith, all_long)) in
    let not_too_many : nat_lt (length earlier.windows) MAX_STEPS ≡ true = grind (arith, nat_tests) in
    rw (
      long,
      not_too_many,
      printed_numeral MAX_STEPS number (omega arith) (omega arith),
      (Decides-eqb number number).1 refl,
      printed_numeral MAX_BLOCKS w (omega arith) fits,
      third_cells (decimal number) (decimal w) amounts limits sizes stores m k arrive.many are.many room.many,
      second_cells (decimal number) (decimal w) amounts limits sizes stores m k arrive.many are.many room.many,
      first_cells (decimal number) (decimal w) amounts limits sizes stores m k arrive.many are.many room.many,
      amounts_read name.Arrivals number amounts 3 earlier.arrived arrive.each,
      amounts_read name.Limit number limits (2 + stores + 1) earlier.step_limits are.each,
      amounts_read name.Size number sizes (2 + stores + m + 1) earlier.step_sizes room.each,
    ) refl

-- the first amounts of a table
first_amounts : (n : ℕ) (amounts : List ℕ) → n ≤ length amounts → All (λ n. n ≤ MAX_BLOCKS) amounts
    → AreAmountsOf n (take n amounts)
first_amounts n amounts enough each = record {
  many = length-take-le n amounts enough;
  each = recursion_from_All (λ n. n ≤ MAX_BLOCKS) (take n amounts) (All-take (λ n. n ≤ MAX_BLOCKS) n amounts each);
}

-- a table with a row for each step
pub record IsTableOf (steps count : ℕ) (amounts : List ℕ) : Type 0 where
  pub long : length amounts ≡ steps * count
  pub each : All (λ n. n ≤ MAX_BLOCKS) amounts

-- its first row, and the others
table_parts : (steps count : ℕ) (amounts : List ℕ) → IsTableOf (suc steps) count amounts
    → AreAmountsOf count (take count amounts) × IsTableOf steps count (drop count amounts)
table_parts steps count amounts is =
    let long = is.long in
    let enough : count ≤ length amounts = omega arith in (
      first_amounts count amounts enough is.each,
      record {
        long = omega (arith, length-drop count amounts);
        each = All-drop (λ n. n ≤ MAX_BLOCKS) count amounts is.each;
      },
    )

-- a table without steps is empty
no_rows : (count : ℕ) (amounts : List ℕ) → IsTableOf 0 count amounts → amounts ≡ []
no_rows count [] is = refl
no_rows count (a ∷ more) is = let long = is.long in absurd (omega arith)

-- the records of steps are read as the steps
pub steps_read : (stores : ℕ) (ws amounts limits sizes : List ℕ) (earlier : Steps)
    → length earlier.windows + length ws ≤ MAX_STEPS → All (λ n. n ≤ MAX_BLOCKS) ws
    → IsTableOf (length ws) stores amounts → IsTableOf (length ws) (length earlier.limited) limits
    → IsTableOf (length ws) (length earlier.sized) sizes
    → steps_in stores earlier (step_rows stores (length earlier.limited) (length earlier.sized) (length
    earlier.windows + 1) ws amounts limits sizes)
    ≡ Ok (record {
      limited = earlier.limited;
      windows = earlier.windows ++ ws;
      arrived = earlier.arrived ++ amounts;
      step_limits = earlier.step_limits ++ limits;
      sized = earlier.sized;
      step_sizes = earlier.step_sizes ++ sizes;
    })
unfolding steps_in
steps_read stores [] amounts limits sizes earlier few windows arrived limited sized =
    rw (
      no_rows stores amounts arrived,
      no_rows (length earlier.limited) limits limited,
      no_rows (length earlier.sized) sizes sized,
      append-nil earlier.windows,
      append-nil earlier.arrived,
      append-nil earlier.step_limits,
      append-nil earlier.step_sizes,
    ) refl
steps_read stores (w ∷ ws) amounts limits sizes earlier few windows arrived limited sized =
    let m = length earlier.limited in
    let k = length earlier.sized in
    let (here, later) = table_parts (length ws) stores amounts arrived in
    let (own, later_limits) = table_parts (length ws) m limits limited in
    let (room, later_sizes) = table_parts (length ws) k sizes sized in
    let next : Steps = record {
      limited = earlier.limited;
      windows = earlier.windows ++ w ∷ [];
      arrived = earlier.arrived ++ take stores amounts;
      step_limits = earlier.step_limits ++ take m limits;
      sized = earlier.sized;
      step_sizes = earlier.step_sizes ++ take k sizes;
    } in
    let longer : length next.windows + 1 ≡ length earlier.windows + 1 + 1 = omega (
      arith,
      length-append earlier.windows (w ∷ []),
    ) in
    let given = step_read stores w (take stores amounts) (take m limits) (take k sizes) earlier (omega arith)
    (All-head (λ n. n ≤ MAX_BLOCKS) w ws windows) here own room in
    let others = steps_read stores ws (drop stores amounts) (drop m limits) (drop k sizes) next (omega arith)
    (All-tail (λ n. n ≤ MAX_BLOCKS) w ws windows) later later_limits later_sizes in
    rw (given, ← longer) (others ∙ rw (
      append_assoc earlier.windows (w ∷ []) ws,
      append_assoc earlier.arrived (take stores amounts) (drop stores amounts),
      append_assoc earlier.step_limits (take m limits) (drop m limits),
      append_assoc earlier.step_sizes (take k sizes) (drop k sizes),
      take-append-drop stores amounts,
      take-append-drop m limits,
      take-append-drop k sizes,
    ) refl)

-- ---- the records of a problem, by the accessors of its numbers

-- the row of a table after k rows
row_at : (n : ℕ) (cells : List ℕ) (k : ℕ) → (k + 1) * n ≤ length cells → map decimal (take n (drop (k * n) cells))
    ≡ map (λ s. decimal (cell n cells s (k + 1))) (range_with_len 0 n)
row_at n cells k room =
    let enough : n ≤ length (drop (k * n) cells) = omega (arith, length-drop (k * n) cells) in
    let amounts : take n (drop (k * n) cells) ≡ map (λ s. cell n cells s (k + 1)) (range_with_len 0 n) =
    fill_by_all (λ s. cell n cells s (k + 1)) (take n (drop (k * n) cells)) n 0 (length-take-le n (drop (k * n) cells)
    enough)
    (λ s below. get_or-take n (drop (k * n) cells) s 0 below ∙ get_or-drop (k * n) cells s 0
    ∙ ap (λ j. get_or cells (j * n + s) 0) (omega arith)) in
    rw amounts (map-map decimal (λ s. cell n cells s (k + 1)) (range_with_len 0 n))

-- the rows after k rows and one more
later_rows : (n : ℕ) (cells : List ℕ) (k : ℕ) → drop n (drop (k * n) cells) ≡ drop ((k + 1) * n) cells
later_rows n cells k = drop-drop n (k * n) cells ∙ ap (λ j. drop j cells) (omega arith)

-- the rows of a problem's steps from a step on
abbrev rows_from : Dumping → ℕ → List Fields
rows_from q k = step_rows (length q.rows) (length q.limited) (length q.sized) (k + 1) (drop k q.windows)
    (drop (k * length q.rows) q.arrived) (drop (k * length q.limited) q.step_limits)
    (drop (k * length q.sized) q.step_sizes)

-- room for one more row of a table
one_row : (n steps k : ℕ) (cells : List ℕ) → length cells ≡ steps * n → k + 1 ≤ steps → (k + 1) * n ≤ length cells
one_row n steps k cells long below = rw long (omega (arith, mul-le-mul_left n below))

module _ (q : Dumping) (arrived : length q.arrived ≡ length q.windows * length q.rows)
    (limits : length q.step_limits ≡ length q.windows * length q.limited)
    (sizes : length q.step_sizes ≡ length q.windows * length q.sized)
  where
    pub records_spelled : (m k : ℕ) → k + m ≡ length q.windows
        → rows_from q k ≡ map (record_of q) (range_with_len (k + 1) m)
    records_spelled zero k all = rw (drop_all k q.windows (omega arith)) refl
    records_spelled (suc m) k all =
        let n = length q.rows in
        let l = length q.limited in
        let z = length q.sized in
        let here : k < length q.windows = omega arith in
        let here_is : k + 1 ≤ length q.windows = omega arith in
        let others = records_spelled m (k + 1) (omega arith) in
        let window_is : get_or q.windows k 0 ≡ window q (k + 1) = ap (λ j. get_or q.windows j 0) (omega arith) in
        rw (
          drop_more q.windows k 0 here,
          row_at n q.arrived k (one_row n (length q.windows) k q.arrived arrived here_is),
          row_at l q.step_limits k (one_row l (length q.windows) k q.step_limits limits here_is),
          row_at z q.step_sizes k (one_row z (length q.windows) k q.step_sizes sizes here_is),
          later_rows n q.arrived k,
          later_rows l q.step_limits k,
          later_rows z q.step_sizes k,
          window_is,
        ) (ap (λ rows. record_of q (k + 1) ∷ rows) others)

    -- the records of all steps
    pub all_spelled : step_rows (length q.rows) (length q.limited) (length q.sized) 1 q.windows q.arrived q.step_limits
        q.step_sizes ≡ map (record_of q) (steps q)
    all_spelled =
        let n = length q.rows in
        let l = length q.limited in
        let z = length q.sized in
        let none : (n : ℕ) → 0 * n ≡ 0 = λ n. omega arith in
        let first : (n : ℕ) (cells : List ℕ) → drop (0 * n) cells
        ≡ cells = λ n cells. ap (λ j. drop j cells) (none n) in
        let each : 0 + length q.windows ≡ length q.windows = omega arith in
        ap (λ cells. step_rows n l z 1 q.windows cells q.step_limits q.step_sizes) (sym (first n q.arrived))
        ∙ ap (λ cells. step_rows n l z 1 q.windows (drop (0 * n) q.arrived) cells q.step_sizes)
        (sym (first l q.step_limits))
        ∙ ap (step_rows n l z 1 q.windows (drop (0 * n) q.arrived) (drop (0 * l) q.step_limits))
        (sym (first z q.step_sizes))
        ∙ records_spelled (length q.windows) 0 each

-- ---- whole forecasts

-- the problem of a setup with these steps
abbrev problem_with : SetupRows → Steps → Dumping
problem_with setup s = record {
  rows = setup.stores;
  limits = limits_of setup.limits;
  windows = s.windows;
  arrived = s.arrived;
  limited = s.limited;
  step_limits = s.step_limits;
  sized = s.sized;
  step_sizes = s.step_sizes;
  come = setup.come;
}

-- the header of a problem's forecast
abbrev header_row : Dumping → Fields
header_row q = header_of q.rows ++ (map limit_text q.limited ++ map (size_text q.rows) q.sized)

-- the records of a forecast: the header, and one of each step
abbrev all_rows : Dumping → List Fields
all_rows q = header_row q ∷ step_rows (length q.rows) (length q.limited) (length q.sized) 1 q.windows q.arrived
    q.step_limits q.step_sizes

-- the records of steps depend on the numbers in them
same_tables : (stores m k : ℕ) (ws ws2 as' as2 ls ls2 zs zs2 : List ℕ) → ws ≡ ws2 → as' ≡ as2 → ls ≡ ls2 → zs ≡ zs2
    → step_rows stores m k 1 ws as' ls zs ≡ step_rows stores m k 1 ws2 as2 ls2 zs2
same_tables stores m k ws ws2 as' as2 ls ls2 zs zs2 windows arrived limits sizes =
    rw (windows, arrived, limits, sizes) refl

-- records that were read are the header and the steps, spelled out
forecast_printed : (setup : SetupRows) (rows : List Fields) (steps : Steps) → forecast_in setup.stores rows ≡ Ok steps
    → rows ≡ all_rows (problem_with setup steps)
unfolding forecast_in
forecast_printed setup [] steps h = absurd (cc)
forecast_printed setup (header ∷ rows) steps h =
    let stores = setup.stores in
    let parts = forecast_parts stores header rows steps h in
    let printed = steps_printed (length stores) rows (no_steps (columns_of steps)) steps parts.are in
    let named = columns_said stores header (columns_of steps) parts.columns in
    let row = header_row (problem_with setup steps) in
    let spelled : header ≡ row = named.spelled ∙ rw (named.limits.spelled, named.sizes.spelled) refl in
    let behind : rows ≡ step_rows (length stores) (length steps.limited) (length steps.sized) 1 steps.windows
    steps.arrived
    steps.step_limits steps.step_sizes = printed.spelled ∙ same_tables (length stores) (length steps.limited)
    (length steps.sized) printed.windows
    steps.windows printed.arrived steps.arrived printed.limits steps.step_limits printed.sizes steps.step_sizes
    (sym printed.windows_behind) (sym printed.arrived_behind) (sym printed.limits_behind) (sym
    printed.sizes_behind) in
    ap (λ f. f ∷ rows) spelled ∙ ap (λ r. row ∷ r) behind

-- a forecast that is read is that of the problem, spelled out
pub forecast_said : (setup : SetupRows) → IsSetup setup → (octets : List ℕ) (q : Dumping) → problem_of setup octets
    ≡ Ok q → IsReadableForecast setup octets q
unfolding problem_of
forecast_said setup is octets q h =
    let (read, are, last) = bind_ok (forecast_in setup.stores (records_of octets)) (λ s. Ok (problem_with setup s)) q
    h in
    let same : problem_with setup read ≡ q = cc in
    let fit = forecast_fits setup.stores (records_of octets) read are in
    let spelled = all_spelled (problem_with setup read) fit.0.table fit.1.table fit.2.table in
    subst (IsReadableForecast setup octets) same (record {
      rows = refl;
      limits = refl;
      records = forecast_printed setup (records_of octets) read are
          ∙ ap (λ r. header_row (problem_with setup read) ∷ r) spelled;
      within = record {
        stores = is.stores;
        steps = fit.0;
        channels = channels_fit setup.limits is.limits.each;
        by_step = fit.1;
        sizes = fit.2;
      };
      come = refl;
    })

-- columns of a problem rise
columns_rise : {count : ℕ} {windows columns cells : List ℕ} → AreColumns count windows columns cells
    → AreRising count columns
columns_rise are = record { at_most = are.at_most; each = are.each_column; rising = are.rising }

-- the steps of a problem
abbrev steps_with : Dumping → Steps
steps_with q = record {
  limited = q.limited;
  windows = q.windows;
  arrived = q.arrived;
  step_limits = q.step_limits;
  sized = q.sized;
  step_sizes = q.step_sizes;
}

-- the records of a problem are read as its steps
forecast_in_read : (q : Dumping) → IsDumping q → All HasId q.rows → forecast_in q.rows (all_rows q) ≡ Ok (steps_with q)
unfolding forecast_in some_steps
forecast_in_read q is ids =
    let steps = is.steps in
    let own = is.by_step in
    let room = is.sizes in
    let columns : Columns = record { limited = q.limited; sized = q.sized } in
    rw (
      columns_read q.rows ids is.stores.named columns (columns_rise own) (columns_rise room),
      steps_read (length q.rows) q.windows q.arrived q.step_limits q.step_sizes (no_steps columns)
          (omega (arith, steps.at_most)) steps.each_window (record { long = steps.table; each = steps.each_arrival })
          (record { long = own.table; each = own.each_cell }) (record { long = room.table; each = room.each_cell }),
      (Decides-nat_le 1 (length q.windows)).1 steps.has_step,
    ) refl

-- the forecast of a problem, spelled out, is read as the problem
pub forecast_read : (setup : SetupRows) → IsSetup setup → (octets : List ℕ) (q : Dumping)
    → IsReadableForecast setup octets q → problem_of setup octets ≡ Ok q
unfolding problem_of
forecast_read setup is octets q h =
    let within = h.within in
    let ids : All HasId q.rows = rw h.rows is.ids in
    let spelled : records_of octets ≡ all_rows q =
    h.records ∙ ap (λ r. header_row q ∷ r) (sym (all_spelled q within.steps.table within.by_step.table
    within.sizes.table)) in
    let read = ap (λ s. forecast_in s (records_of octets)) (sym h.rows) ∙ ap (forecast_in q.rows) spelled
    ∙ forecast_in_read q within ids in
    rw (read, ← h.rows, ← h.limits, ← h.come) refl
