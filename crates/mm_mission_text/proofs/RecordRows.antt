-- The records of a text, one after the other.
use Rattle.std.proofs.Common.{◌≡◌, ℕ, false, List, [], ◌∷◌, ◌++◌, length, map, Some, Bor, refl, sym, ap, ◌∙◌}
use Rattle.std.proofs.Common.{add-one, append_assoc, append-nil}
use Rattle.std.proofs.lemmas.List.{map-append}
use Rattle.csv.proofs.ReadFacts.{rows-end}
use Rattle.csv.specs.Reading.{default_config, records_from, reader_state, ReadRecord}
use Rattle.csv.specs.Records.{Row, fields_of, trimmed}
use Rattle.csv.specs.declared.reader.Reader.{Reader}
use Rattle.mm_problem.specs.Records.{Fields, HasRecords}

-- a read that found no record: none was left
pub none_left : (reader after : Reader (Bor (List ℕ))) (rows : List Fields) (h : HasRecords reader rows)
    → ReadRecord (λ (s : Bor (List ℕ)). Some s.now) reader after false [] → rows ≡ []
unfolding records_from
none_left reader after rows h read =
    let none = rows-end (λ (s : Bor (List ℕ)). Some s.now) reader after [] default_config h.rest h.config h.source
    read in
    h.read
    ∙ ap (λ n. records_from default_config n (reader_state reader) h.rest) (add-one (length h.rest))
    ∙ rw none refl

-- the rows read so far and those left, once the first of those left is read too
pub read_more : (read : List Row) (row : Row) (fields : Fields) (rows more all : List Fields)
    → fields_of row ≡ map trimmed fields → rows ≡ fields ∷ more → map fields_of read ++ map (map trimmed) rows ≡ all
    → map fields_of (read ++ row ∷ []) ++ map (map trimmed) more ≡ all
read_more read row fields rows more all trims first whole =
    rw (map-append fields_of read (row ∷ []), append_assoc, trims, sym whole, first) refl

-- the rows read so far, once none is left
pub read_all : (read : List Row) (rows all : List Fields) → rows ≡ []
    → map fields_of read ++ map (map trimmed) rows ≡ all → map fields_of read ≡ all
read_all read rows all none whole = sym (append-nil (map fields_of read)) ∙ rw none at whole
