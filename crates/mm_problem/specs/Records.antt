-- The records of a forecast that a reader has not read yet.
use Rattle.std.specs.Prelude.{◌≡◌, ℕ, ◌+◌, Bool, true, false, List, [], ◌∷◌, length, Some}
use Rattle.std.specs.Borrow.{Bor}
use Rattle.csv.specs.Machine.{ends_at_end}
use Rattle.csv.specs.Reading.{Ready, default_config, strip_bom, source_of, records, records_from, reader_config}
use Rattle.csv.specs.Reading.{reader_trim, reader_state, is_flexible}
use Rattle.csv.specs.declared.reader.Reader.{Reader}
use Rattle.csv.specs.declared.reader.Trim.TheVariants as trim

-- a record: the bytes of each field
abbrev pub Fields : Type 0
Fields = List (List ℕ)

-- the records of a text, without its byte order mark
abbrev pub records_of : List ℕ → List Fields
records_of text = records default_config (strip_bom text)

-- a reader of records of any length, with these records still to be read
pub record HasRecords (reader : Reader (Bor (List ℕ))) (rows : List Fields) : Type 0 where
  pub ready : Ready reader
  pub config : reader_config reader ≡ default_config
  pub plain : reader_trim reader ≡ trim.None
  pub flexible : is_flexible reader ≡ true
  pub between : ends_at_end (reader_state reader) ≡ false
  pub rest : List ℕ
  pub source : source_of (λ (s : Bor (List ℕ)). Some s.now) reader ≡ Some rest
  pub read : rows ≡ records_from default_config (length rest + 1) (reader_state reader) rest

-- a reader of some records
abbrev pub IsReading : Reader (Bor (List ℕ)) → Type 0
IsReading reader = (rows : List Fields) × HasRecords reader rows

-- a read that found the first of these records or the end, and the records after it
abbrev pub TakesRecord : List Fields → Bool → Fields → Reader (Bor (List ℕ)) → Type 0
TakesRecord [] found fields reader = found ≡ false
TakesRecord (row ∷ rows) found fields reader = (found ≡ true) × (fields ≡ row) × HasRecords reader rows
