-- Records that are written with commas between their cells are read back.
use Rattle.std.proofs.Common.{◌≡◌, ◌∙◌, ◌+◌, ◌-◌, ◌%◌, ◌<◌, ◌≤◌, ◌++◌, ◌^◌, ℕ, zero, suc, false, List, [], ◌∷◌}
use Rattle.std.proofs.Common.{refl, sym, ap, ap₂, arith, decimal, flat_map, length, length-append, Some}
use Rattle.std.specs.List.{All, list_any}
use Rattle.std.proofs.lemmas.Bool.Decides.{nat_tests}
use Rattle.std.proofs.lemmas.Fmt.{decimal_by_steps}
use Rattle.std.proofs.lemmas.List.Elements.{All-head, All-tail}
use Rattle.std.proofs.lemmas.List.Folds.{list_any-append}
use Rattle.csv.specs.Machine.{next_record}
use Rattle.csv.specs.Reading.{default_config, records_from, records_next}
use Rattle.csv.specs.Writing.{default_writer, field_text, fields_text, is_blank, needs_byte, row_text}
use Rattle.csv.specs.declared.parser.State.TheVariants as st
use Rattle.csv.proofs.RoundTrip.{read-write}
use Rattle.mm_base.specs.Characters.{line_feed}
use Rattle.mm_problem.specs.Records.{Fields}
use Rattle.mm_rest.specs.Forecasts.{next_cell}

-- a cell that is written as it is
abbrev pub IsPlain : List ℕ → Type 0
IsPlain cell = list_any (needs_byte default_writer) cell ≡ false

-- a character above the comma and the quotes needs no quotes
pub plain_char : (c : ℕ) → 45 ≤ c → needs_byte default_writer c ≡ false
plain_char c above = grind (arith, nat_tests)

pub plain_more : (xs ys : List ℕ) → IsPlain xs → IsPlain ys → IsPlain (xs ++ ys)
plain_more xs ys one other = rw (list_any-append (needs_byte default_writer) xs ys, one, other) refl

plain_one : (c : ℕ) → 45 ≤ c → IsPlain (c ∷ [])
plain_one c above = rw (plain_char c above) refl

-- a number is
pub plain_number : (n : ℕ) → n < 2 ^ 64 → IsPlain (decimal n)
plain_number n within = decimal_by_steps (λ n ds. IsPlain ds) (λ n few. plain_one (48 + n) (omega arith))
    (λ n ds many before. plain_more ds ((48 + n % 10) ∷ []) before (plain_one (48 + n % 10) (omega arith))) n within

-- a record as it is written here
abbrev pub row_line : Fields → List ℕ
row_line [] = line_feed ∷ []
row_line (x ∷ xs) = x ++ flat_map next_cell xs ++ line_feed ∷ []

-- a record of at least two cells, each of which is written as it is
abbrev pub IsRow : Fields → Type 0
IsRow [] = ⊥
IsRow (x ∷ []) = ⊥
IsRow (x ∷ y ∷ rest) = IsPlain x × IsPlain y × All IsPlain rest

field_is : (x : List ℕ) → IsPlain x → field_text default_writer x ≡ x
field_is x plain = rw plain refl

fields_are : (xs : Fields) → All IsPlain xs → fields_text default_writer xs ≡ flat_map next_cell xs
unfolding fields_text
fields_are [] all = refl
fields_are (x ∷ xs) all =
    ap (λ t. 44 ∷ t) (ap₂ (λ a b. a ++ b) (field_is x (All-head IsPlain x xs all))
    (fields_are xs (All-tail IsPlain x xs all)))

-- the default writer writes it so
row_is : (row : Fields) → IsRow row → row_text default_writer row ≡ row_line row
unfolding is_blank fields_text
row_is [] is = absurd is
row_is (x ∷ []) is = absurd is
row_is (x ∷ y ∷ rest) is =
    rw (field_is x is.0, field_is y is.1, fields_are rest is.2) refl

read_back_row : (row : Fields) (tail : List ℕ) → IsRow row
    → next_record default_config st.StartRecord [] [] (row_line row ++ tail) ≡ Some (row, st.StartRecord, tail)
read_back_row [] tail is = absurd is
read_back_row (x ∷ []) tail is = absurd is
read_back_row (x ∷ y ∷ rest) tail is =
    ap (λ t. next_record default_config st.StartRecord [] [] (t ++ tail)) (sym (row_is (x ∷ y ∷ rest) is))
    ∙ read-write (x ∷ y ∷ rest) tail

nothing_left : (k : ℕ) → records_from default_config k st.StartRecord [] ≡ []
unfolding records_from next_record
nothing_left zero = refl
nothing_left (suc k) = refl

-- all records are read, and nothing is left
rows_read : (rows : List Fields) (k : ℕ) → All IsRow rows
    → records_from default_config (length rows + k) st.StartRecord (flat_map row_line rows) ≡ rows
unfolding records_from
rows_read [] k all = nothing_left (length {A = Fields} [] + k)
rows_read (row ∷ rows) k all =
    let turn : length (row ∷ rows) + k ≡ suc (length rows + k) = omega arith in
    ap (λ n. records_from default_config n st.StartRecord (flat_map row_line (row ∷ rows))) turn
    ∙ ap (records_next (records_from default_config (length rows + k)))
    (read_back_row row (flat_map row_line rows) (All-head IsRow row rows all))
    ∙ ap (λ rs. row ∷ rs) (rows_read rows k (All-tail IsRow row rows all))

line_some : (row : Fields) → 1 ≤ length (row_line row)
line_some [] = omega arith
line_some (x ∷ xs) = omega (arith, length-append (x ++ flat_map next_cell xs) (line_feed ∷ []))

rows_some : (rows : List Fields) → length rows ≤ length (flat_map row_line rows)
rows_some [] = omega arith
rows_some (row ∷ rows) =
    omega (arith, line_some row, rows_some rows, length-append (row_line row) (flat_map row_line rows))

-- the records of their text
pub rows_are : (rows : List Fields) → All IsRow rows
    → records_from default_config (length (flat_map row_line rows) + 1) st.StartRecord (flat_map row_line rows) ≡ rows
rows_are rows all =
    let text = flat_map row_line rows in
    let turns : length rows + (length text + 1 - length rows) ≡ length text + 1 = omega (arith, rows_some rows) in
    ap (λ n. records_from default_config n st.StartRecord text) (sym turns)
    ∙ rows_read rows (length text + 1 - length rows) all
