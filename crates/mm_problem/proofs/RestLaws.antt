-- The rest of a problem, from new start volumes.
use Rattle.std.proofs.Common.{◌≡◌, ℕ, zero, suc, inl, inr, ◌+◌, ◌-◌, ◌*◌, ◌<◌, ◌≤◌, nat_le, Bool, true, List}
use Rattle.std.proofs.Common.{length, get_or, drop, refl, sym, ap, ◌∙◌, arith, length-drop, get_or-set_same}
use Rattle.std.proofs.Common.{get_or-set_other}
use Rattle.std.specs.List.{list_all, range_with_len}
use Rattle.std.proofs.lemmas.Bool.{and_parts, cases_eq}
use Rattle.std.proofs.lemmas.List.{get_or_default}
use Rattle.std.proofs.Math.ListN.{set, length-set}
use Rattle.std.proofs.lemmas.List.Elements.{All-drop, All-set}
use Rattle.std.proofs.Math.Nat.{eq-or-lt_of_le, mul_comm, mul-le-mul, mul-sub}
use Rattle.std.proofs.lemmas.List.FromFn.{length-map-range_with_len, get_or-map-range_with_len}
use Rattle.mm_base.specs.declared.limits.TheConstants.{MAX_BLOCKS}
use Rattle.mm_base.specs.declared.rows.StoreRow.{StoreRow}
use Rattle.mm_base.proofs.IdFields.{Decides-nat_le}
use Rattle.mm_problem.specs.Dumping.{no_row, AreSteps, AreColumns}
use Rattle.mm_problem.specs.Rest.{starting_with, rows_from, starts_fit}
use Rattle.mm_problem.specs.Setup.{IsStoreRow, AreStores}

-- each number of a range passes what all pass
of_range : (p : ℕ → Bool) (n a k : ℕ) → list_all p (range_with_len a n) ≡ true → a ≤ k → k < a + n → p k ≡ true
of_range p zero a k all low high = absurd (omega arith)
of_range p (suc n) a k all low high =
    let (here, others) = and_parts (p a) (list_all p (range_with_len (a + 1) n)) all in
    elim (eq-or-lt_of_le low) [
      | inl same ↦ rw (← same) here
      | inr above ↦ of_range p n (a + 1) k others (omega arith) (omega arith)
    ]

-- the rows of a table after a step
later_table : (steps n step : ℕ) (cells : List ℕ)
    → length cells ≡ steps * n → length (drop (step * n) cells) ≡ (steps - step) * n
later_table steps n step cells table =
    let fewer : (steps - step) * n ≡ steps * n - step * n =
    mul_comm (steps - step) n ∙ mul-sub n steps step ∙ (omega arith) in
    rw (length-drop (step * n) cells, table, fewer) refl

-- the steps up to a step have no more cells than all steps
pub rest_within : (steps n step : ℕ) (cells : List ℕ) → length cells ≡ steps * n → step < steps
    → step * n ≤ length cells
rest_within steps n step cells table below =
    let fewer : step ≤ steps = omega arith in
    let same : n ≤ n = omega arith in
    omega (arith, table, mul-le-mul fewer same)

-- the columns of the steps after a step
pub are_columns : (count : ℕ) (windows columns cells : List ℕ) (step : ℕ) → AreColumns count windows columns cells
    → AreColumns count (drop step windows) columns (drop (step * length columns) cells)
are_columns count windows columns cells step is = record {
  at_most = is.at_most;
  each_column = is.each_column;
  rising = is.rising;
  table = rw (length-drop step windows) (later_table (length windows) (length columns) step cells is.table);
  each_cell = All-drop (λ n. n ≤ MAX_BLOCKS) (step * length columns) cells is.each_cell;
}

-- the columns with another number at a place
pub set_columns : (count : ℕ) (windows columns cells : List ℕ) (place n : ℕ) → n ≤ MAX_BLOCKS
    → AreColumns count windows columns cells → AreColumns count windows columns (set cells place n)
set_columns count windows columns cells place n most is = record {
  at_most = is.at_most;
  each_column = is.each_column;
  rising = is.rising;
  table = length-set cells place n ∙ is.table;
  each_cell = All-set (λ m. m ≤ MAX_BLOCKS) cells place n most is.each_cell;
}

module _ (rows : List StoreRow) (place : ℕ) (new : StoreRow) (within : place < length rows)
    (same : new.id ≡ (get_or rows place no_row).id) where
  -- each store keeps its identifier where one is replaced by a store with the same
  id_kept : (k : ℕ) (d : StoreRow) → (get_or (set rows place new) k d).id ≡ (get_or rows k d).id
  id_kept k d = elim (cases_eq k place) [
    | inl here ↦ rw (here, get_or-set_same rows place new d within)
        (same ∙ ap (λ (r : StoreRow). r.id) (get_or_default rows place no_row d within))
    | inr other ↦ rw (get_or-set_other rows place k new d other) refl
  ]

  -- stores stay stores then
  pub set_stores : IsStoreRow new → AreStores rows → AreStores (set rows place new)
  set_stores row is = record {
    has_store = omega (arith, length-set rows place new, is.has_store);
    at_most = omega (arith, length-set rows place new, is.at_most);
    each = All-set IsStoreRow rows place new row is.each;
    named = λ i j d low high equal.
        is.named i j d low (omega (arith, length-set rows place new)) (sym (id_kept i d) ∙ equal ∙ id_kept j d);
  }

module _ (rows : List StoreRow) (starts : List ℕ) where
  -- each store has room where the test passes
  pub starts_fit_said : starts_fit rows starts ≡ true
      → (k : ℕ) → k < length rows → get_or starts k 0 ≤ (get_or rows k no_row).size
  starts_fit_said all k below = (Decides-nat_le (get_or starts k 0) (get_or rows k no_row).size).0
      (of_range (λ s. nat_le (get_or starts s 0) (get_or rows s no_row).size) (length rows) 0 k all (omega arith)
      (omega arith))

  -- the row at a place
  row_at : (k : ℕ) (d : StoreRow) → k < length rows
      → get_or (rows_from rows starts) k d ≡ starting_with (get_or rows k no_row) (get_or starts k 0)
  row_at k d below = get_or-map-range_with_len
      (λ s. starting_with (get_or rows s no_row) (get_or starts s 0)) 0 (length rows) k k d below (omega arith)

  -- there are as many rows
  pub as_many_rows : length (rows_from rows starts) ≡ length rows
  as_many_rows =
      length-map-range_with_len (λ s. starting_with (get_or rows s no_row) (get_or starts s 0)) 0 (length rows)

  -- they are stores
  pub are_stores : AreStores rows → starts_fit rows starts ≡ true → AreStores (rows_from rows starts)
  are_stores is fit = record {
    has_store = omega (arith, as_many_rows, is.has_store);
    at_most = omega (arith, as_many_rows, is.at_most);
    each = λ k d below.
        let within : k < length rows = omega (arith, as_many_rows) in
        let row = is.each k no_row within in
        rw (row_at k d within) (record {
          has_room = row.has_room;
          size = row.size;
          start = omega (arith, starts_fit_said fit k within, row.size);
          channel = row.channel;
        });
    named = λ i j d low high.
        let within : j < length rows = omega (arith, as_many_rows) in
        rw (row_at i d (omega arith), row_at j d within) (is.named i j no_row low within);
  }

  -- the steps after a step
  pub are_steps : (windows arrived : List ℕ) (step : ℕ) → AreSteps rows windows arrived
      → step < length windows → AreSteps (rows_from rows starts) (drop step windows) (drop (step * length rows) arrived)
  are_steps windows arrived step is below =
      let n = length rows in
      record {
        has_step = omega (arith, length-drop step windows);
        at_most = omega (arith, length-drop step windows, is.at_most);
        table = rw (length-drop step windows, as_many_rows) (later_table (length windows) n step arrived is.table);
        each_window = All-drop (λ n. n ≤ MAX_BLOCKS) step windows is.each_window;
        each_arrival = All-drop (λ n. n ≤ MAX_BLOCKS) (step * n) arrived is.each_arrival;
      }
