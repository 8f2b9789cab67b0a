-- What the first line of a text says of its files.
use Rattle.std.proofs.Common.{◌≡◌, ℕ, ◌+◌, true, false, List, [], ◌∷◌, ◌++◌, length, Option, Some, None, refl, sym, ap}
use Rattle.std.proofs.Common.{◌∙◌, inl, inr, arith, append_assoc, ◌==◌}
use Rattle.std.proofs.lemmas.List.{append-nil}
use Rattle.std.specs.Prelude.{bytes_eq}
use Rattle.std.specs.List.{join_with_byte}
use Rattle.std.proofs.lemmas.List.Splits.{length-slice_split, join_with_byte-slice_split}
use Rattle.mm_base.specs.Lines.{text_lines}
use Rattle.mm_files.specs.Contents.{MayBe, MayBeUnread, content_of}
use Rattle.mm_files.specs.Scripts.{is_heading, heading_of, before_heading, file_in, IsFirstLine}

-- a line before others ends with a line feed
joined-cons : (line : List ℕ) (lines : List (List ℕ)) (n : ℕ) → length lines ≡ n + 1
    → join_with_byte 10 (line ∷ lines) ≡ line ++ (10 ∷ join_with_byte 10 lines)
joined-cons line [] n some = absurd (omega (arith, some))
joined-cons line (l ∷ ls) n some = refl

-- a line that is no heading, and the lines after it
before_heading-cons : (line : List ℕ) (lines : List (List ℕ)) (n : ℕ) → length lines ≡ n + 1 → is_heading line ≡ false
    → before_heading (line ∷ lines) ≡ line ++ (10 ∷ before_heading lines)
before_heading-cons line [] n some other = absurd (omega (arith, some))
before_heading-cons line (l ∷ ls) n some other = rw other refl

-- a text is its lines with line feeds between them
joined : (text : List ℕ) → join_with_byte 10 (text_lines text) ≡ text
joined text = join_with_byte-slice_split 10 text

-- a line that is no heading belongs to the file before the next heading
pub passes : (text line rest : List ℕ) → IsFirstLine text line rest → is_heading line ≡ false
    → (piece : List ℕ) × ((text ≡ piece ++ rest)
    × (before_heading (text_lines text) ≡ piece ++ before_heading (text_lines rest)))
passes text line rest (inl lines) other =
    let more : length (text_lines rest) ≡ _ + 1 = length-slice_split (λ c. c == 10) rest in
    let text_is : text ≡ line ++ (10 ∷ rest) =
    sym (joined text) ∙ ap (join_with_byte 10) lines ∙ joined-cons line (text_lines rest) _ more
    ∙ ap (λ t. line ++ (10 ∷ t)) (joined rest) in
    let file_is : before_heading (text_lines text) ≡ line ++ (10 ∷ before_heading (text_lines rest)) =
    ap before_heading lines ∙ before_heading-cons line (text_lines rest) _ more other in (
      line ++ 10 ∷ [],
      (
        text_is ∙ sym (append_assoc line (10 ∷ []) rest),
        file_is
            ∙ sym (append_assoc line (10 ∷ []) (before_heading (text_lines rest))),
      ),
    )
passes text line rest (inr last) other =
    let text_is : text ≡ line = sym (joined text) ∙ ap (join_with_byte 10) last.0 in
    (line, (rw (text_is, last.1) (sym (append-nil line)), rw (last.0, last.1, other) (sym (append-nil line))))

-- the heading of the name is followed by its file
pub found : (name text line rest : List ℕ) → IsFirstLine text line rest → bytes_eq line (heading_of name) ≡ true
    → file_in name (text_lines text) ≡ Some (before_heading (text_lines rest))
found name text line rest (inl lines) is = rw lines (rw is refl)
found name text line rest (inr last) is = rw (last.0, last.1) (rw is refl)

-- a line that is not the heading of the name is passed over
pub not_found : (name text line rest : List ℕ) → IsFirstLine text line rest → bytes_eq line (heading_of name) ≡ false
    → file_in name (text_lines text) ≡ file_in name (text_lines rest)
not_found name text line rest (inl lines) other = rw lines (rw other refl)
not_found name text line rest (inr last) other = rw (last.0, last.1) (rw other refl)

-- what was read is the file, where there is one
pub is_file : (file : Option (List ℕ)) (octets text : List ℕ) → Some octets ≡ file → text ≡ octets
    → MayBe (content_of file) text
is_file file octets text is same = rw (← is) same

-- where there is no file of the name, it may be unread
pub is_no_file : (file : Option (List ℕ)) → None ≡ file → MayBeUnread (content_of file)
is_no_file file is = rw (← is) tt
