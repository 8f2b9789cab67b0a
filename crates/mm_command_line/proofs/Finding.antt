-- What clap found for the words of a line.
use Rattle.std.proofs.Common.{◌≡◌, ◌∙◌, ◌++◌, ◌≤◌, ℕ, Bool, Bor, true≢false, refl, sym, ap, ap₂, map, drop}
use Rattle.std.proofs.Common.{drop_of_length-le, length, List, [], ◌∷◌, Option, Some, None, is_some, filter_map, find}
use Rattle.std.specs.List.{cons_option}
use Rattle.std.specs.Option.{option_map, unwrap_or}
use Rattle.std.specs.Str.{bytes_eq}
use Rattle.std.specs.Bool.{Decides}
use Rattle.std.specs.Cmp.Lexicographic.{pointwise}
use Rattle.std.specs.Cmp.Derive.Mapped.{pointwise-map}
use Rattle.std.proofs.lemmas.List.{append-nil}
use Rattle.std.proofs.lemmas.Slice.Eq.{bytes_eq-Decides, slice_eq-Decides}
use Rattle.clap.proofs.WalkLemmas.{find-map, first_value-rows}
use Rattle.clap.specs.Matches.{first_value}
use Rattle.clap.specs.Walk.{Row, Text, first_of, rows_of}
use Rattle.clap.specs.declared.parser.matches.Found.{Found}
use Rattle.mm_command_line.specs.Commands.{Entry, commands, entry_of, line_found, name_of, row_found, words_found}
use Rattle.mm_command_line.specs.declared.file.File.{File}
use Rattle.mm_command_line.specs.declared.command.Form.{Form}

option_map-twice : {X Y Z : Type 0} (f : Y → Z) (g : X → Y) (x : Option X)
    → option_map (λ x. f (g x)) x ≡ option_map f (option_map g x)
option_map-twice f g None = refl
option_map-twice f g (Some x) = refl

-- the row of a word, as it is found among the commands
pub row_is : (word : Text) (form : Option (Bor Form)) (forms : List Form)
    → option_map (λ (f : Bor Form). f.now) form ≡ find (λ (f : Form). bytes_eq f.word.now word) forms
    → option_map (λ (f : Bor Form). entry_of f.now) form ≡ find (λ (e : Entry). bytes_eq e.0 word) (map entry_of forms)
row_is word form forms is =
    option_map-twice entry_of (λ (f : Bor Form). f.now) form ∙ ap (option_map entry_of) is
    ∙ find-map (λ (e : Entry). bytes_eq e.0 word) entry_of forms

-- the command that was found, by the row of its word
pub found_is : {X : Type 0} (f : X → Text × List Row) (sub : Option X) (name : Text) (rows : List Row)
    (row : Option Entry) → Some name ≡ option_map (λ x. (f x).0) sub
    → Some rows ≡ option_map (λ p. p.1) (option_map f sub) → row ≡ find (λ (e : Entry). bytes_eq e.0 name) commands
    → option_map (λ (e : Entry). (e, rows)) row ≡ row_found (option_map f sub)
found_is f None name rows row is at known = absurd (true≢false (ap is_some is))
found_is f (Some x) name rows row is at known =
    ap (option_map (λ (e : Entry). (e, rows))) known
    ∙ ap₂ (λ n r. row_found (Some (n, r))) (ap (λ o. unwrap_or o name) is) (ap (λ o. unwrap_or o rows) at)

-- ---- the names of files, one after another

abbrev id_of : File → Text
id_of file = name_of file

abbrev name_in : Found → File → Option Text
name_in found file = first_value found (id_of file)

-- the names that are left to be read
abbrev pub names_left : Found → List File → List Text
names_left found files = filter_map (name_in found) files

names_are : (found : Found) (files : List File)
    → names_left found files ≡ filter_map (λ id. first_of id (rows_of found)) (map id_of files)
names_are found [] = refl
names_are found (file ∷ files) = ap₂ cons_option (first_value-rows found (id_of file)) (names_are found files)

-- where no file is left, the words are those of the command
pub all_found : (form : Form) (found : Found) (i : ℕ) (words : List (Bor Text)) → length form.files.now ≤ i
    → map (λ (w : Bor Text). w.now) words
    ++ names_left found (drop i form.files.now) ≡ form.word.now ∷ names_left found form.files.now
    → map (λ (w : Bor Text). w.now) words ≡ words_found (entry_of form) (rows_of found)
all_found form found i words end is =
    sym (append-nil (map (λ (w : Bor Text). w.now) words))
    ∙ ap (λ fs. map (λ (w : Bor Text). w.now) words ++ names_left found fs)
    (sym (drop_of_length-le form.files.now {i = i} end))
    ∙ is ∙ ap (λ names. form.word.now ∷ names) (names_are found form.files.now)

-- ---- the words found and those given

-- the words of the command that was found are those of the line
pub line_is : (sub : Option (Text × List Row)) (entry : Entry) (rows : List Row) (words found : List Text)
    → Some (entry, rows) ≡ row_found sub → found ≡ words_found entry rows
    → line_found sub ≡ Some words → found ≡ words
line_is sub entry rows words found row is line =
    is ∙ ap (λ o. unwrap_or o words) (ap (option_map (λ (row : Entry × List Row). words_found row.0 row.1)) row ∙ line)

-- two lists are equal where their words are
pub same_words : (found given : List (Bor Text)) (r : Bool)
    → r ≡ pointwise (λ (a b : Bor Text). bytes_eq a.now b.now) found given
    → Decides r (map (λ (w : Bor Text). w.now) found ≡ map (λ (w : Bor Text). w.now) given)
same_words found given r is =
    slice_eq-Decides bytes_eq-Decides (map (λ (w : Bor Text). w.now) found) (map (λ (w : Bor Text). w.now) given) r
    (is ∙ sym (pointwise-map (λ (w : Bor Text). w.now) bytes_eq found given))
