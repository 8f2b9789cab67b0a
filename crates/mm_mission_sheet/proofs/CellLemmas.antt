-- Lines, written cell by cell, and cells, written octet by octet.
use Rattle.std.proofs.Common.{◌≡◌, ℕ, suc, ◌+◌, ◌<◌, ◌≤◌, List, [], ◌∷◌, ◌++◌, length, get_or, map, take, refl, sym, ap, ◌∙◌}
use Rattle.std.proofs.Common.{arith, append_assoc, append-nil}
use Rattle.std.specs.Prelude.{codes}
use Rattle.std.proofs.lemmas.List.{length-map, length-take-le, map-append, take_more}
use Rattle.std.proofs.lemmas.List.Concat.{flat_map-append}
use Rattle.csv.specs.Writing.{default_writer, escaped, field_text, fields_text, next_sep, row_body, row_text, is_blank}
use Rattle.csv.proofs.WriteFacts.{escaped-append, fields-snoc, row-more}
use Rattle.mm_mission_sheet.specs.declared.cell.Cell.{Cell}
use Rattle.mm_mission_sheet.specs.Cells.{cell_text, csv_line, csv_text}
use Rattle.mm_mission_sheet.specs.Rows.{sent_header}

-- one part more after the others
pub more : (old so_far part mid new : List ℕ) → mid ≡ old ++ so_far → new ≡ mid ++ part → new ≡ old ++ (so_far ++ part)
more old so_far part mid new before next = next ∙ ap (λ xs. xs ++ part) before ∙ append_assoc old so_far part

-- no octet
pub escaped_nothing : (old : List ℕ) → old ≡ old ++ escaped default_writer []
unfolding escaped
escaped_nothing old = sym (append-nil old)

-- one octet more
pub escaped_step : (cell : List ℕ) (i d : ℕ) (old mid new : List ℕ) → i < length cell
    → mid ≡ old ++ escaped default_writer (take i cell) → new ≡ mid ++ escaped default_writer (get_or cell i d ∷ [])
    → new ≡ old ++ escaped default_writer (take (i + 1) cell)
escaped_step cell i d old mid new within before next =
    more old _ _ mid new before next
    ∙ ap (λ xs. old ++ xs) (sym (ap (escaped default_writer) (take_more cell i d within)
    ∙ escaped-append default_writer (take i cell) (get_or cell i d ∷ [])))

-- one cell more
pub cells_step : (cells : List Cell) (i : ℕ) (d : Cell) (old mid new : List ℕ) → i < length cells
    → mid ≡ old ++ row_body default_writer (map cell_text (take i cells))
    → new ≡ (mid ++ next_sep default_writer i) ++ field_text default_writer (cell_text (get_or cells i d))
    → new ≡ old ++ row_body default_writer (map cell_text (take (i + 1) cells))
cells_step cells i d old mid new within before next =
    let size : length (map cell_text (take i cells)) ≡ i =
    length-map (take i cells) cell_text ∙ length-take-le i cells (omega arith) in
    more old _ _ mid new before
    (next ∙ append_assoc mid (next_sep default_writer i) (field_text default_writer (cell_text (get_or cells i d))))
    ∙ ap (λ xs. old ++ xs) (sym (ap (λ xs. row_body default_writer (map cell_text xs)) (take_more cells i d within)
    ∙ ap (row_body default_writer) (map-append cell_text (take i cells) (get_or cells i d ∷ []))
    ∙ rw size at (row-more default_writer (map cell_text (take i cells)) (cell_text (get_or cells i d)))))

-- one cell more after others
pub next_step : (cells : List Cell) (i : ℕ) (d : Cell) (old mid new : List ℕ) → i < length cells
    → mid ≡ old ++ fields_text default_writer (map cell_text (take i cells))
    → new ≡ mid ++ 44 ∷ field_text default_writer (cell_text (get_or cells i d))
    → new ≡ old ++ fields_text default_writer (map cell_text (take (i + 1) cells))
next_step cells i d old mid new within before next =
    more old _ _ mid new before next
    ∙ ap (λ xs. old ++ xs) (sym (ap (λ xs. fields_text default_writer (map cell_text xs)) (take_more cells i d within)
    ∙ ap (fields_text default_writer) (map-append cell_text (take i cells) (get_or cells i d ∷ []))
    ∙ fields-snoc default_writer (map cell_text (take i cells)) (cell_text (get_or cells i d))))

-- no cells after others
pub no_cells : (cells : List (List ℕ)) → cells ++ map cell_text [] ≡ cells
no_cells cells = append-nil cells

-- no cell
pub no_more : (old : List ℕ) → old ≡ old ++ fields_text default_writer []
unfolding fields_text
no_more old = sym (append-nil old)

-- cells and more of them
fields-append : (xs ys : List (List ℕ)) → fields_text default_writer (xs ++ ys)
    ≡ fields_text default_writer xs ++ fields_text default_writer ys
unfolding fields_text
fields-append [] ys = refl
fields-append (x ∷ xs) ys =
    ap (λ t. 44 ∷ (field_text default_writer x ++ t)) (fields-append xs ys)
    ∙ ap (λ t. 44 ∷ t)
    (sym (append_assoc (field_text default_writer x) (fields_text default_writer xs) (fields_text default_writer ys)))

-- the line of several cells and of more after them
line_is : (xs ys : List (List ℕ)) → 2 ≤ length xs → row_body default_writer xs ++ (fields_text default_writer ys ++ 10 ∷ [])
    ≡ csv_line (xs ++ ys)
unfolding is_blank
line_is [] ys several = absurd (omega arith)
line_is (x ∷ []) ys several = absurd (omega arith)
line_is (x ∷ y ∷ rest) ys several =
    let first = field_text default_writer x in
    let others = fields_text default_writer (y ∷ rest) in
    append_assoc first others (fields_text default_writer ys ++ 10 ∷ [])
    ∙ ap (λ t. first ++ t) (sym (append_assoc others (fields_text default_writer ys) (10 ∷ []))
    ∙ ap (λ t. t ++ 10 ∷ []) (sym (fields-append (y ∷ rest) ys)))
    ∙ sym (append_assoc first (fields_text default_writer (y ∷ (rest ++ ys))) (10 ∷ []))

pub line_end : (cells after : List Cell) (old one two new : List ℕ) → 2 ≤ length cells
    → one ≡ old ++ row_body default_writer (map cell_text cells)
    → two ≡ one ++ fields_text default_writer (map cell_text after) → new ≡ two ++ 10 ∷ []
    → new ≡ old ++ csv_line (map cell_text cells ++ map cell_text after)
line_end cells after old one two new several first second last =
    let several_texts : 2 ≤ length (map cell_text cells) = omega (arith, length-map cells cell_text) in
    let rest : new ≡ one ++ (fields_text default_writer (map cell_text after) ++ 10 ∷ []) =
    last ∙ ap (λ t. t ++ 10 ∷ []) second ∙ append_assoc one (fields_text default_writer (map cell_text after)) (10 ∷ []) in
    more old (row_body default_writer (map cell_text cells)) (fields_text default_writer (map cell_text after) ++ 10 ∷ []) one
    new first rest
    ∙ ap (λ t. old ++ t) (line_is (map cell_text cells) (map cell_text after) several_texts)

-- one line more
pub lines_step : {X : Type 0} (f : X → List (List ℕ)) (xs : List X) (i : ℕ) (d : X) (old mid new : List ℕ)
    → i < length xs → mid ≡ old ++ csv_text (map f (take i xs)) → new ≡ mid ++ csv_line (f (get_or xs i d))
    → new ≡ old ++ csv_text (map f (take (i + 1) xs))
lines_step f xs i d old mid new within before next =
    more old _ _ mid new before next
    ∙ ap (λ ys. old ++ ys) (sym (ap (λ ys. csv_text (map f ys)) (take_more xs i d within)
    ∙ ap csv_text (map-append f (take i xs) (get_or xs i d ∷ []))
    ∙ flat_map-append csv_line (map f (take i xs)) (f (get_or xs i d) ∷ [])
    ∙ ap (λ line. csv_text (map f (take i xs)) ++ line) (append-nil (csv_line (f (get_or xs i d))))))

-- the header of a timeline
pub header_is : csv_line sent_header ≡ codes "pass,station,begin,end,store,packets,octets,bit/s\n"
unfolding fields_text is_blank
header_is = refl
