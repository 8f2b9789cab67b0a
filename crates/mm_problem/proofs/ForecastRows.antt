-- The records of a forecast, found one after the other.
use Rattle.std.proofs.Common.{◌≡◌, ℕ, ◌+◌, true, false, List, ◌∷◌, length, drop, Result, Ok, Err, Bor, refl, sym, ap}
use Rattle.std.proofs.Common.{◌∙◌}
use Rattle.std.specs.Prelude.{OnOk}
use Rattle.csv.specs.Reading.{default_config, records_from, reader_state}
use Rattle.csv.specs.declared.reader.Reader.{Reader}
use Rattle.mm_problem.specs.declared.fault.Fault.{Fault}
use Rattle.mm_problem.specs.declared.fault.Fault.TheVariants.{Header}
use Rattle.mm_base.specs.declared.rows.StoreRow.{StoreRow}
use Rattle.mm_problem.specs.Forecast.{Steps, next_step, steps_in, some_steps, later_steps, columns_in, header_in}
use Rattle.mm_problem.specs.Forecast.{forecast_in}
use Rattle.mm_base.specs.Reading.{◌>>=◌}
use Rattle.mm_problem.specs.Records.{Fields, HasRecords, TakesRecord}
use Rattle.mm_problem.proofs.RecordSteps.{found_record, found_end}

-- a reader, and what is left of the reading
pub record Left (reader : Reader (Bor (List ℕ))) (read : List Fields
    → Result Steps Fault) (whole : Result Steps Fault) : Type 0 where
  pub rows : List Fields
  pub has : HasRecords reader rows
  pub left : read rows ≡ whole

-- what holds after any answer holds after an answer that is no fault
pub on_ok : {X F : Type 0} {P : Type 0} (result : Result X F) → P → OnOk result P
on_ok (Ok x) holds = holds
on_ok (Err e) holds = tt

-- a reader has one list of records
pub same_rows : (reader : Reader (Bor (List ℕ))) (rows others : List Fields) → HasRecords reader rows
    → HasRecords reader others → rows ≡ others
same_rows reader rows others h g =
    let found = sym h.source ∙ g.source in
    let same : h.rest ≡ g.rest = cc in
    h.read ∙ ap (λ rest. records_from default_config (length rest + 1) (reader_state reader) rest) same ∙ sym g.read

-- the header, and the steps after it
pub forecast_parts : (stores : List StoreRow) (rows : List Fields)
    → forecast_in stores rows ≡ (header_in stores rows >>= (λ columns. later_steps (length stores) columns (drop 1
    rows)))
unfolding forecast_in
forecast_parts stores rows = refl

module _ (stores : List StoreRow) (rows : List Fields) (fields : Fields) (reader : Reader (Bor (List ℕ))) where
  -- without a record there is no header
  pub no_header : TakesRecord rows false fields reader → header_in stores rows ≡ Err Header
  no_header took = rw (found_end rows fields reader took) refl

  -- the first record is the header
  pub header_at : TakesRecord rows true fields reader → header_in stores rows ≡ columns_in stores fields
  header_at took = let (more, are, has) = found_record rows fields reader took in rw are refl

module _ (rows : List Fields) (fields : Fields) (reader : Reader (Bor (List ℕ))) where
  -- the records after the first
  pub later_rows : TakesRecord rows true fields reader → HasRecords reader (drop 1 rows)
  later_rows took = let (more, are, has) = found_record rows fields reader took in rw are has

  module _ (n : ℕ) (steps : Steps) where
    pub no_row : TakesRecord rows false fields reader → (steps_in n steps rows >>= some_steps) ≡ some_steps steps
    unfolding steps_in
    no_row took = rw (found_end rows fields reader took) refl

    module _ (took : TakesRecord rows true fields reader) where
      pub row_fault : (e : Fault) → next_step n steps fields ≡ Err e → (steps_in n steps rows >>= some_steps) ≡ Err e
      unfolding steps_in
      row_fault e given = let (more, are, has) = found_record rows fields reader took in rw (are, given) refl

      pub row_found : (next : Steps) → next_step n steps fields ≡ Ok next
          → Left reader (λ more. steps_in n next more >>= some_steps) (steps_in n steps rows >>= some_steps)
      unfolding steps_in
      row_found next given =
          let (more, are, has) = found_record rows fields reader took in
          let behind : (steps_in n steps (fields ∷ more) >>= some_steps)
          ≡ (steps_in n next more >>= some_steps) = rw given refl in
          record {
            rows = more;
            has = has;
            left = sym behind ∙ ap (λ all. steps_in n steps all >>= some_steps) (sym
                are);
          }
