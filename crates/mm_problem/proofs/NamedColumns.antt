-- Columns of a forecast that are read from their names.
use Rattle.std.proofs.Common.{◌≡◌, ℕ, ◌<◌, ◌≤◌, List, [], ◌∷◌, length, map, Result, Ok, refl, sym, ap, ◌∙◌, arith}
use Rattle.std.specs.Prelude.{All, AllPairs}
use Rattle.std.specs.List.{AllZip}
use Rattle.std.proofs.lemmas.List.{length-map}
use Rattle.std.proofs.lemmas.List.Elements.{All-nil}
use Rattle.mm_problem.specs.declared.fault.Fault.{Fault}
use Rattle.mm_problem.specs.Records.{Fields}
use Rattle.mm_problem.specs.Tables.{rows_in}
use Rattle.mm_problem.proofs.RowLaws.{IsNext, none_apart, rows_said, rows_read}

-- the name is that of the column of this channel or store
abbrev pub Says : (ℕ → List ℕ) → List ℕ → ℕ → Type 0
Says text name column = name ≡ text column

-- one of that many channels or stores
abbrev pub IsBelow : ℕ → ℕ → Type 0
IsBelow count column = column < count

-- these channels or stores, of which there are that many at most, rise
pub record AreRising (count : ℕ) (columns : List ℕ) : Type 0 where
  pub at_most : length columns ≤ count
  pub each : All (IsBelow count) columns
  pub rising : AllPairs ◌<◌ columns

-- the names are those of the columns of these channels or stores
pub record AreNamesOf (text : ℕ → List ℕ) (count : ℕ) (names : List (List ℕ)) (columns : List ℕ) : Type 0 where
  pub spelled : names ≡ map text columns
  pub rise : AreRising count columns

module _ (text : ℕ → List ℕ) where
  -- names that are those of columns, one by one
  names_said : (names : Fields) (columns : List ℕ) → AllZip (Says text) names columns → names ≡ map text columns
  names_said [] [] h = refl
  names_said [] (c ∷ cs) h = absurd h
  names_said (name ∷ names) [] h = absurd h
  names_said (name ∷ names) (c ∷ cs) h =
      ap (λ n. n ∷ names) h.0 ∙ ap (λ ns. text c ∷ ns) (names_said names cs h.1)

  -- the names of columns are theirs
  names_are : (columns : List ℕ) → AllZip (Says text) (map text columns) columns
  names_are [] = tt
  names_are (c ∷ cs) = (refl, names_are cs)

  module _ (count : ℕ) (next : List ℕ → List ℕ → Result ℕ Fault) where
    -- names that are read are those of the columns
    pub columns_said : ((earlier : List ℕ) (name : List ℕ) (c : ℕ) → next earlier name ≡ Ok c
        → IsNext (Says text) (IsBelow count) ◌<◌ earlier name c) → (names : Fields) (columns : List ℕ)
        → length names ≤ count → rows_in next [] names ≡ Ok columns → AreNamesOf text count names columns
    columns_said said names columns few h =
        let are = rows_said (Says text) (IsBelow count) ◌<◌ next said names [] columns (All-nil (IsBelow count))
        (none_apart ◌<◌) h in
        let spelled : names ≡ map text columns =
        names_said names are.more are.each ∙ ap (map text) (sym are.behind) in
        record {
          spelled = spelled;
          rise = record {
            at_most = omega (arith, few, ap length spelled, length-map columns text);
            each = are.fit;
            rising = are.apart;
          };
        }

    -- the names of columns that rise are read as the columns
    pub columns_read : ((earlier : List ℕ) (name : List ℕ) (c : ℕ)
        → IsNext (Says text) (IsBelow count) ◌<◌ earlier name c → next earlier name ≡ Ok c) → (columns : List ℕ)
        → AreRising count columns → rows_in next [] (map text columns) ≡ Ok columns
    columns_read read columns are = rows_read (Says text) (IsBelow count) ◌<◌ next read (map text columns) [] columns
        (names_are columns) are.each are.rising
