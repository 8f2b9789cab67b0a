-- From lines to octets: how far a text has been read, and where it ends.
use Rattle.std.proofs.Common.{◌≡◌, ℕ, ◌+◌, ◌-◌, ◌≤◌, false, ◌==◌, List, [], ◌∷◌, ◌++◌, length, map, take, drop}
use Rattle.std.proofs.Common.{Some}
use Rattle.std.proofs.Common.{refl, sym, ap, ◌∙◌, subst, arith, append_assoc, length-append}
use Rattle.std.specs.Prelude.{All, option_and_then}
use Rattle.std.specs.List.{join_with_byte}
use Rattle.std.proofs.Math.Seq.{take-append_seam}
use Rattle.std.proofs.lemmas.List.{append_cancel_right, length-map, map_push, map-append}
use Rattle.std.proofs.lemmas.List.{same_from_push}
use Rattle.std.proofs.lemmas.List.{take-append-drop, take-append-le}
use Rattle.std.proofs.lemmas.List.Elements.{All-nil, All-cons, All-head, All-tail, All-append, All-map, All-push}
use Rattle.std.proofs.lemmas.List.Elements.{All-weaker}
use Rattle.std.proofs.lemmas.List.Splits.{join_with_byte-slice_split, length-slice_split}
use Rattle.std.proofs.lemmas.Option.{same_Some, none-some}
use Rattle.mm_base.specs.Lines.{text_lines}
use Rattle.mm_plan.specs.declared.draft.Stage.{Stage}
use Rattle.mm_plan.specs.declared.draft.Stage.TheVariants.{Done}
use Rattle.mm_plan.specs.Sheet.{SheetRows, IsSheet, Line, lines_of, line_text, sheet_text, Begins, IsFirstBadLine}
use Rattle.mm_plan.specs.Sheet.{IsLine}
use Rattle.mm_plan.specs.Reading.{DraftRows, start, sheet_of, IsTaken, IsRefused}
use Rattle.mm_plan.proofs.Spelled.{Lacks, slice_split-join}
use Rattle.mm_plan.proofs.Saying.{one_value, all_read}
use Rattle.mm_plan.proofs.Lines.{lines, same_line}
use Rattle.mm_plan.proofs.Drafts.{so_far, IsAt, IsEnded, IsSound, IsAdded, lines_so_far, start_sound, added}
use Rattle.mm_plan.proofs.Runs.{go, go_may, go_stops, go-append, go-lines_of, whole, sheet_of-whole, lines_are}
use Rattle.mm_plan.proofs.Completions.{Leads, leads, whole_is_sheet, lines_of-whole, few_so_far}

-- the texts of the lines that a draft was read from
abbrev pub texts_so_far : DraftRows → List (List ℕ)
texts_so_far d = map line_text (lines_so_far d)

-- the lines before this one are the draft's, and the rest is to be read
pub record IsReadTo (text : List ℕ) (d : DraftRows) (rest : List ℕ) (line : ℕ) : Type 0 where
  pub sound : IsSound d
  pub each : All IsLine (lines_so_far d)
  pub ran : go start (lines_so_far d) ≡ Some d
  pub number : line ≡ length (lines_so_far d) + 1
  pub lines : text_lines text ≡ texts_so_far d ++ text_lines rest

-- nothing has been read
pub read_to_start : (text : List ℕ) → IsReadTo text start text 1
read_to_start text = record { sound = start_sound; each = All-nil IsLine; ran = refl; number = refl; lines = refl }

-- a text has a line
some_lines : (text : List ℕ) → 1 ≤ length (text_lines text)
some_lines text = omega (arith, length-slice_split (λ c. c == 10) text)

-- a line was taken
pub read_on : {text rest : List ℕ} {d e : DraftRows} {line : ℕ} (front after_front : List ℕ) → IsReadTo text d rest line
    → text_lines rest ≡ front ∷ text_lines after_front → IsTaken d front e → IsReadTo text e after_front (line + 1)
read_on {text} {rest} {d} {e} {line} front after_front h split taken =
    let x = taken.line in
    let xs = lines_so_far d in
    let more : IsAdded d x = added d.stage d.form d.rows x taken.is h.sound.rows h.sound.at taken.follows in
    subst (λ f. IsReadTo text f after_front (line + 1)) (sym taken.added) (record {
      sound = more.sound;
      each = subst (All IsLine) (sym more.lines) (All-push IsLine xs x h.each taken.is);
      ran =
          ap (go start) more.lines
          ∙ go-append start xs (x ∷ [])
          ∙ ap (option_and_then (λ f. go f (x ∷ []))) h.ran
          ∙ go_may d x [] taken.follows;
      number = omega (arith, h.number, ap length more.lines, length-append xs (x ∷ []));
      lines =
          h.lines
          ∙ ap (λ ls. texts_so_far d ++ ls) (split ∙ ap (λ l. l ∷ text_lines after_front) taken.text_is)
          ∙ sym (append_assoc (texts_so_far d) (line_text x ∷ []) (text_lines after_front))
          ∙ ap (λ ls. ls ++ text_lines after_front) (sym (ap (map line_text) more.lines ∙ map_push line_text xs x));
    })

-- ---- the lines of a sheet's text

-- the lines of a sheet's text
text_lines-sheet_text : (s : SheetRows) → IsSheet s → text_lines (sheet_text s) ≡ map line_text (lines_of s) ++ [] ∷ []
unfolding sheet_text
text_lines-sheet_text s h =
    let ls = map line_text (lines_of s) in
    let P : Line → Type 0 = λ x. Lacks 10 (line_text x) in
    let each = All-weaker IsLine P lines.good (lines_of s) (lines_are s h) in
    let lacking = All-map (Lacks 10) line_text (lines_of s) each in
    let last = All-cons (Lacks 10) [] [] (All-nil (λ b. (b == 10) ≡ false)) (All-nil (Lacks 10)) in
    let all = All-append (Lacks 10) ls ([] ∷ []) lacking last in
    slice_split-join 10 (ls ++ [] ∷ []) (omega (arith, length-append ls ([] ∷ []))) all

-- lines of the same texts are the same
same_lines : (xs ys : List Line) → All IsLine xs → All IsLine ys → map line_text xs ≡ map line_text ys → xs ≡ ys
same_lines = one_value (all_read lines)

-- where the texts of lines go on after those of the first, so do the lines
record GoesOn (xs ys : List Line) (text : List ℕ) : Type 0 where
  next : Line
  rest : List Line
  is : IsLine next
  shows : text ≡ line_text next
  lines : ys ≡ xs ++ next ∷ rest

-- the first of two lists of lines are the same where their texts are
goes_on : (xs ys : List Line) (text : List ℕ) (texts : List (List ℕ)) → All IsLine xs → All IsLine ys
    → map line_text ys ≡ map line_text xs ++ text ∷ texts → GoesOn xs ys text
goes_on xs [] text texts h i e = absurd (omega (arith, ap length e, length-append (map line_text xs) (text ∷ texts)))
goes_on [] (y ∷ ys) text texts h i e =
    record { next = y; rest = ys; is = All-head IsLine y ys i; shows = cc; lines = refl }
goes_on (x ∷ xs) (y ∷ ys) text texts h i e =
    let p = goes_on xs ys text texts (All-tail IsLine x xs h) (All-tail IsLine y ys i) (cc) in
    let same : x ≡ y = same_line x y (All-head IsLine x xs h) (All-head IsLine y ys i) (cc) in
    record { next = p.next; rest = p.rest; is = p.is; shows = p.shows; lines = cc (same, p.lines) }

-- sheets of one text are one sheet
pub one_sheet : (s r : SheetRows) → IsSheet s → IsSheet r → sheet_text s ≡ sheet_text r → s ≡ r
one_sheet s r is_s is_r same =
    let split = sym (text_lines-sheet_text s is_s) ∙ ap text_lines same ∙ text_lines-sheet_text r is_r in
    let texts = append_cancel_right (map line_text (lines_of s)) (map line_text (lines_of r)) ([] ∷ []) split in
    let lines = same_lines (lines_of s) (lines_of r) (lines_are s is_s) (lines_are r is_r) texts in
    let drafts = same_Some (whole s) (whole r) (sym (go-lines_of s is_s) ∙ ap (go start) lines ∙ go-lines_of r is_r) in
    sym (sheet_of-whole s) ∙ ap sheet_of drafts ∙ sheet_of-whole r

-- its first lines begin a sheet
front_begins : (s : SheetRows) → IsSheet s → (k : ℕ) → Begins (take k (map line_text (lines_of s)))
front_begins s h k = (s, h, drop k (map line_text (lines_of s)), sym (take-append-drop k (map line_text (lines_of s))))

-- ---- where a text is bad, and where it is a sheet's

-- the first of a list
first_are : (k : ℕ) (ls ms more : List (List ℕ)) → k ≡ length ms → ls ≡ ms ++ more → take k ls ≡ ms
first_are k ls ms more size is = ap (λ n. take n ls) size ∙ ap (take (length ms)) is ∙ take-append_seam ms more

module _ {text rest : List ℕ} {d : DraftRows} {line : ℕ} (h : IsReadTo text d rest line) where
  -- no more lines are taken
  pub few_read : line ≤ 69940
  few_read = omega (arith, h.number, few_so_far d h.sound)

  -- the lines before this one
  before : take (line - 1) (text_lines text) ≡ texts_so_far d
  before = first_are (line - 1) (text_lines text) (texts_so_far d) (text_lines rest)
      (omega (arith, h.number, length-map (lines_so_far d) line_text)) h.lines

  -- they begin a sheet
  begun : Begins (take (line - 1) (text_lines text))
  begun =
      let led : Leads d = leads d h.sound in
      let more = map line_text led.more in
      let texts = ap (map line_text) led.lines ∙ map-append line_text (lines_so_far d) led.more in
      (led.sheet, led.is, more, texts ∙ ap (λ ls. ls ++ more) (sym before))

  -- how many lines there are
  count : length (text_lines text) ≡ line - 1 + length (text_lines rest)
  count =
      let all = ap length h.lines ∙ length-append (texts_so_far d) (text_lines rest) in
      omega (arith, h.number, all, length-map (lines_so_far d) line_text)

  -- no sheet goes on with a text that is refused
  not_next : (front : List ℕ) (more : List (List ℕ)) (s : SheetRows) → IsRefused d front → IsSheet s
      → map line_text (lines_of s) ≡ texts_so_far d ++ front ∷ more → ⊥
  not_next front more s refused is e =
      let p = goes_on (lines_so_far d) (lines_of s) front more h.each (lines_are s is) e in
      none-some (whole s) (
      sym (go_stops d p.next p.rest (refused p.next p.is p.shows))
      ∙ sym (go-append start (lines_so_far d) (p.next ∷ p.rest)
      ∙ ap (option_and_then (λ e. go e (p.next ∷ p.rest))) h.ran)
      ∙ ap (go start) (sym p.lines)
      ∙ go-lines_of s is
      )

  -- a line that is refused is the first bad one
  pub bad_line : (front after_front : List ℕ) → text_lines rest ≡ front ∷ text_lines after_front → IsRefused d front
      → IsFirstBadLine text line
  bad_line front after_front split refused =
      let ls = text_lines text in
      let upto = texts_so_far d ++ front ∷ [] in
      let rest_is = ap (λ ms. texts_so_far d ++ ms) split in
      let all = h.lines ∙ rest_is ∙ sym (append_assoc (texts_so_far d) (front ∷ []) (text_lines after_front)) in
      let size = length-append (texts_so_far d) (front ∷ []) in
      let here : take line ls ≡ upto = first_are line ls upto (text_lines after_front)
      (omega (arith, h.number, size, length-map (lines_so_far d) line_text)) all in
      let none : ¬ Begins (take line ls) = λ b.
      let lines = b.3 ∙ ap (λ ms. ms ++ b.2) here ∙ append_assoc (texts_so_far d) (front ∷ []) b.2 in
      not_next front b.2 b.0 refused b.1 lines in
      let places = count in
      record {
        first = omega (arith, h.number);
        last = omega (arith, places, h.number, ap length split);
        before = begun;
        here = λ _. none;
        no_sheet = λ s is e.
            let ms = map line_text (lines_of s) in
            let lines : ls ≡ ms ++ [] ∷ [] = ap text_lines e ∙ text_lines-sheet_text s is in
            let size = ap length lines ∙ length-append ms ([] ∷ []) in
            let within : line ≤ length ms =
            omega (arith, places, h.number, ap length split, some_lines after_front, size) in
            let fronts = ap (take line) lines ∙ take-append-le line ms ([] ∷ []) within in
            none (subst Begins (sym fronts) (front_begins s is line));
      }

  module _ (last : text_lines rest ≡ rest ∷ []) where
    -- where the text ends and is a sheet's, the whole sheet was read
    pub whole_at_end : (s : SheetRows) → IsSheet s → text ≡ sheet_text s → (d ≡ whole s) × (rest ≡ [])
    whole_at_end s is e =
        let ms = map line_text (lines_of s) in
        let all = sym (h.lines ∙ ap (λ ls. texts_so_far d ++ ls) last) ∙ ap text_lines e ∙ text_lines-sheet_text s is in
        let ends = same_from_push (texts_so_far d) ms rest [] all in
        let lines = same_lines (lines_so_far d) (lines_of s) h.each (lines_are s is) ends.0 in
        (same_Some d (whole s) (sym h.ran ∙ ap (go start) lines ∙ go-lines_of s is), ends.1)

    -- a text that ends too early is bad where it ends
    pub bad_end : ((d.stage ≡ Done) → (rest ≡ []) → ⊥) → IsFirstBadLine text line
    bad_end bad =
        let places = count in
        record {
          first = omega (arith, h.number);
          last = omega (arith, places, h.number, ap length last);
          before = begun;
          here = λ more. absurd (omega (arith, places, h.number, ap length last, more));
          no_sheet = λ s is e. let p = whole_at_end s is e in bad (ap (λ f. f.stage) p.0) p.1;
        }

  module _ (done : d.stage ≡ Done) where
    -- a plan and all certificates were read
    ended : IsEnded d.form d.rows
    ended = let P : Stage → Type 0 = λ stage. IsAt stage d.form d.rows in subst P done h.sound.at

    -- the first of them is there
    pub done_some : 1 ≤ length d.rows.certificates
    done_some = omega (arith, ap length ended.whole.certificates.all)

    -- where the text ends after the last line, it is the sheet's
    pub good_end : text_lines rest ≡ rest ∷ [] → rest ≡ [] → IsSheet (sheet_of d) × (text ≡ sheet_text (sheet_of d))
    unfolding sheet_text
    good_end last empty =
        let xs = lines_of (sheet_of d) in
        let lines : lines_so_far d ≡ xs =
        ap (λ stage. so_far stage d.form d.rows) done ∙ sym (lines_of-whole d.form d.rows ended) in
        let all : text_lines text ≡ map line_text xs ++ [] ∷ [] =
        h.lines
        ∙ ap (λ ys. map line_text ys ++ text_lines rest) lines
        ∙ ap (λ ls. map line_text xs ++ ls) (last ∙ ap (λ r. r ∷ []) empty) in
        let joined = sym (join_with_byte-slice_split 10 text) ∙ ap (join_with_byte 10) all in
        (whole_is_sheet d.form d.rows h.sound.rows ended, joined)
