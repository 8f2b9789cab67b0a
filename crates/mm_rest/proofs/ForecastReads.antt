-- The text of a problem's forecast has the records of the problem.
use Rattle.std.proofs.Common.{◌≡◌, ◌∙◌, ◌-◌, ◌<◌, ◌≤◌, ◌++◌, ◌^◌, ℕ, List, [], ◌∷◌, Ok, Err, Result, Vec, inl, inr}
use Rattle.std.proofs.Common.{refl, sym, ap, ap₂, arith, append_assoc, codes, decimal, flat_map, get_or, length, map}
use Rattle.std.specs.Prelude.{IfOk, IsTrue, OnOk, slice_index}
use Rattle.std.specs.List.{All, range_with_len}
use Rattle.std.proofs.Math.ListN.{get_or-eq_default}
use Rattle.std.proofs.lemmas.Bool.{cases_lt}
use Rattle.std.proofs.lemmas.Bool.Decides.{nat_tests}
use Rattle.std.proofs.lemmas.Grind.{flat_map-append}
use Rattle.std.proofs.lemmas.List.{ext_get_or}
use Rattle.std.proofs.lemmas.List.Elements.{All-append, All-cons, All-from_get_or, All-map}
use Rattle.std.proofs.lemmas.List.Folds.{flat_map-map, list_any_none}
use Rattle.std.proofs.lemmas.List.FromFn.{get_or-map-range_with_len, length-map-range_with_len}
use Rattle.csv.specs.Reading.{strip_bom}
use Rattle.csv.specs.Writing.{default_writer, needs_byte}
use Rattle.mm_base.specs.Characters.{line_feed}
use Rattle.mm_base.specs.Grid.{cell, grid_place}
use Rattle.mm_base.specs.Id.{IsIdField, IsIdText, id_text, is_id_char}
use Rattle.mm_base.proofs.Ranges.{All-range_with_len}
use Rattle.mm_base.specs.declared.limits.TheConstants.{MAX_BLOCKS}
use Rattle.mm_base.specs.declared.rows.StoreRow.{StoreRow}
use Rattle.mm_problem.specs.Dumping.{Dumping, IsDumping, arrivals, column_limit, column_size, no_row, row, steps}
use Rattle.mm_problem.specs.Dumping.{stores, window}
use Rattle.mm_problem.specs.Forecast.{header_of}
use Rattle.mm_problem.specs.ReadableForecast.{columns, forecast_of, limit_text, record_of, size_columns, size_text}
use Rattle.mm_problem.specs.Records.{records_of}
use Rattle.mm_rest.specs.Forecasts.{HasIds, arrived_cell, column_cell, forecast_text, header_text, id_cell, limit_cell}
use Rattle.mm_rest.specs.Forecasts.{next_cell, size_cell, sized_cell, step_text}
use Rattle.mm_rest.proofs.Csv.{IsPlain, IsRow, plain_char, plain_more, plain_number, row_line, rows_are}

-- ---- the text, line by line

flat_map_same : {A B : Type 0} (f g : A → List B) → ((x : A) → f x ≡ g x) → (xs : List A)
    → flat_map f xs ≡ flat_map g xs
flat_map_same f g same [] = refl
flat_map_same f g same (x ∷ xs) = ap₂ (λ a b. a ++ b) (same x) (flat_map_same f g same xs)

-- the elements of a list by their places
pub by_place : {A : Type 0} (d : A) (xs : List A) → xs ≡ map (λ i. get_or xs i d) (range_with_len 0 (length xs))
by_place d xs =
    let at = λ (i : ℕ). get_or xs i d in
    ext_get_or d xs (map at (range_with_len 0 (length xs))) (sym (length-map-range_with_len at 0 (length xs)))
    (λ i within. sym (get_or-map-range_with_len at 0 (length xs) i i d within (omega arith)))

placed : {A B : Type 0} (f : A → List B) (d : A) (xs : List A)
    → flat_map f xs ≡ flat_map (λ i. f (get_or xs i d)) (range_with_len 0 (length xs))
placed f d xs = ap (flat_map f) (by_place d xs)
    ∙ flat_map-map f (λ i. get_or xs i d) (range_with_len 0 (length xs))

-- a text in six parts
regrouped : (number window arrived limits sizes end : List ℕ)
    → (number ++ (window ++ (arrived ++ (limits ++ sizes)))) ++ end
    ≡ number ++ window ++ arrived ++ limits ++ sizes ++ end
regrouped number window arrived limits sizes end = simp append_assoc

module _ (q : Dumping) where
  ids_are : flat_map next_cell (map (λ (r : StoreRow). id_text r.id) q.rows) ≡ flat_map (id_cell q) (stores q)
  ids_are = flat_map-map next_cell (λ (r : StoreRow). id_text r.id) q.rows
      ∙ placed (λ (r : StoreRow). next_cell (id_text r.id)) no_row q.rows

  columns_are : flat_map next_cell (map limit_text q.limited) ≡ flat_map (column_cell q) (columns q)
  columns_are = flat_map-map next_cell limit_text q.limited
      ∙ placed (λ c. next_cell (limit_text c)) 0 q.limited

  sized_are : flat_map next_cell (map (size_text q.rows) q.sized) ≡ flat_map (sized_cell q) (size_columns q)
  sized_are = flat_map-map next_cell (size_text q.rows) q.sized
      ∙ placed (λ s. next_cell (size_text q.rows s)) 0 q.sized

  header_is : row_line (header_of q.rows ++ (map limit_text q.limited ++ map (size_text q.rows) q.sized))
      ≡ header_text q
  unfolding header_text
  header_is =
      let ids = map (λ (r : StoreRow). id_text r.id) q.rows in
      let limits = map limit_text q.limited in
      let sizes = map (size_text q.rows) q.sized in
      let more = flat_map-append next_cell limits sizes ∙ ap₂ (λ a b. a ++ b) columns_are sized_are in
      let cells = flat_map-append next_cell ids (limits ++ sizes) ∙ ap₂ (λ a b. a ++ b) ids_are more in
      ap (λ cs. codes "step" ++ (next_cell (codes "window") ++ cs) ++ line_feed ∷ []) cells
      ∙ simp append_assoc

  arrived_are : (t : ℕ) → flat_map next_cell (map (λ s. decimal (arrivals q s t)) (stores q))
      ≡ flat_map (arrived_cell q t) (stores q)
  arrived_are t = flat_map-map next_cell (λ s. decimal (arrivals q s t)) (stores q)

  limits_are : (t : ℕ)
      → flat_map next_cell (map (λ k. decimal (cell (length q.limited) q.step_limits k t)) (columns q))
      ≡ flat_map (limit_cell q t) (columns q)
  limits_are t = flat_map-map next_cell (λ k. decimal (cell (length q.limited) q.step_limits k t)) (columns q)

  sizes_are : (t : ℕ)
      → flat_map next_cell (map (λ k. decimal (cell (length q.sized) q.step_sizes k t)) (size_columns q))
      ≡ flat_map (size_cell q t) (size_columns q)
  sizes_are t = flat_map-map next_cell (λ k. decimal (cell (length q.sized) q.step_sizes k t)) (size_columns q)

  step_is : (t : ℕ) → row_line (record_of q t) ≡ step_text q t
  unfolding step_text
  step_is t =
      let arrived = map (λ s. decimal (arrivals q s t)) (stores q) in
      let limits = map (λ k. decimal (cell (length q.limited) q.step_limits k t)) (columns q) in
      let sizes = map (λ k. decimal (cell (length q.sized) q.step_sizes k t)) (size_columns q) in
      let more = flat_map-append next_cell limits sizes ∙ ap₂ (λ a b. a ++ b) (limits_are t) (sizes_are t) in
      let cells = flat_map-append next_cell arrived (limits ++ sizes) ∙ ap₂ (λ a b. a ++ b) (arrived_are t) more in
      ap (λ cs. decimal t ++ (next_cell (decimal (window q t)) ++ cs) ++ line_feed ∷ []) cells
      ∙ regrouped (decimal t) (next_cell (decimal (window q t))) (flat_map (arrived_cell q t) (stores q))
      (flat_map (limit_cell q t) (columns q)) (flat_map (size_cell q t) (size_columns q)) (line_feed ∷ [])

  lines_are : forecast_text q ≡ flat_map row_line (forecast_of q)
  unfolding forecast_text
  lines_are = ap₂ (λ a b. a ++ b) (sym header_is)
      (sym (flat_map-map row_line (record_of q) (steps q)
      ∙ flat_map_same (λ t. row_line (record_of q t)) (step_text q) step_is (steps q)))

  -- ---- each cell is written as it is

  module _ (is : IsDumping q) (fields : (s : ℕ) → s < length q.rows → IsIdField (row q s).id) where
    id_plain : (text : List ℕ) → IsIdText text → IsPlain text
    id_plain text well = list_any_none (needs_byte default_writer) text
        (λ k d within. plain_char (get_or text k d) (above (get_or text k d) (well.each k d within)))
      where
        above : (c : ℕ) → IsTrue (is_id_char c) → 45 ≤ c
        above c h = grind (arith, nat_tests)

    -- a number of a table, also where the table has none
    small : (cells : List ℕ) (i : ℕ) → All (λ n. n ≤ MAX_BLOCKS) cells → IsPlain (decimal (slice_index cells i))
    small cells i each = plain_number (slice_index cells i) (elim (cases_lt i (length cells)) [
      | inl within ↦ omega (arith, each i 0 within)
      | inr past ↦ omega (arith, get_or-eq_default cells 0 past)
    ])

    limit_plain : (c : ℕ) → c < 8 → IsPlain (limit_text c)
    limit_plain c within = plain_more (codes "limit:") (decimal c) refl (plain_number c (omega arith))

    size_plain : (s : ℕ) → s < length q.rows → IsPlain (size_text q.rows s)
    size_plain s within = plain_more (codes "size:") (id_text (row q s).id) refl
        (id_plain (id_text (row q s).id) (fields s within).text)

    header_row : IsRow (header_of q.rows ++ (map limit_text q.limited ++ map (size_text q.rows) q.sized))
    header_row = (
      refl,
      refl,
      All-append IsPlain (map (λ (r : StoreRow). id_text r.id) q.rows)
          (map limit_text q.limited ++ map (size_text q.rows) q.sized)
          (All-map IsPlain (λ (r : StoreRow). id_text r.id) q.rows
          (All-from_get_or (λ (r : StoreRow). IsPlain (id_text r.id)) q.rows no_row
          (λ s within. id_plain (id_text (row q s).id) (fields s within).text)))
          (All-append IsPlain (map limit_text q.limited) (map (size_text q.rows) q.sized)
          (All-map IsPlain limit_text q.limited (λ k d within. limit_plain _ (is.by_step.each_column k d within)))
          (All-map IsPlain (size_text q.rows) q.sized (λ k d within. size_plain _ (is.sizes.each_column k d within)))),
    )

    step_row : (t : ℕ) → t < 2 ^ 64 → IsRow (record_of q t)
    step_row t within = (
      plain_number t within,
      small q.windows (t - 1) is.steps.each_window,
      All-append IsPlain (map (λ s. decimal (arrivals q s t)) (stores q)) _
          (All-map IsPlain (λ s. decimal (arrivals q s t)) (stores q)
          (λ k d below. small q.arrived (grid_place (length q.rows) t _) is.steps.each_arrival))
          (All-append IsPlain (map (λ k. decimal (column_limit q k t)) (columns q)) _
          (All-map IsPlain (λ k. decimal (column_limit q k t)) (columns q)
          (λ k d below. small q.step_limits (grid_place (length q.limited) t _) is.by_step.each_cell))
          (All-map IsPlain (λ k. decimal (column_size q k t)) (size_columns q)
          (λ k d below. small q.step_sizes (grid_place (length q.sized) t _) is.sizes.each_cell))),
    )

    -- each record is one
    rows_are_rows : All IsRow (forecast_of q)
    rows_are_rows = All-cons IsRow (header_of q.rows ++ (map limit_text q.limited ++ map (size_text q.rows) q.sized))
        (map (record_of q) (steps q)) header_row
        (All-map IsRow (record_of q) (steps q)
        (All-range_with_len (λ t. IsRow (record_of q t)) 1 (length q.windows)
        (λ t low high. step_row t (omega (arith, is.steps.at_most)))))

    -- the text has the records
    pub records_are : records_of (forecast_text q) ≡ forecast_of q
    unfolding forecast_text header_text strip_bom
    records_are = ap (λ text. records_of text) lines_are ∙ rows_are (forecast_of q) rows_are_rows

-- the same of a text that is printed
pub text_read : {A B : Type 0} (q : Dumping) (r : Result (Vec ℕ A) B) → IfOk r (λ text. text.items ≡ forecast_text q)
    → OnOk r (HasIds q) → OnOk r (IsDumping q) → IfOk r (λ text. records_of text.items ≡ forecast_of q)
text_read q (Ok text) is fields within = ap records_of is ∙ records_are q within fields
text_read q (Err e) is fields within = tt
