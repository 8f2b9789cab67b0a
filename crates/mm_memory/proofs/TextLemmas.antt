-- Which text an identifier's field has.
use Rattle.mm_memory.proofs.Words.{◌≡◌, Bool, true, false, ◌≢◌, ℕ, ◌-◌, ◌<◌, ◌≤◌, List, length, get_or, inl, inr, refl}
use Rattle.mm_memory.proofs.Words.{sym, subst, ap, ◌∙◌, arith, slice_get, Option, Some, None, IsTrue, if◌then◌else◌}
use Rattle.mm_memory.proofs.Words.{cases_lt, replicate, get_or-append, get_or-replicate, get_or-append_right}
use Rattle.mm_memory.proofs.Words.{slice_get_within, get_or_from_slice_get, is_id_char, is_id_text, IsIdText, IsIdField}
use Rattle.mm_memory.proofs.Words.{field_of, id_text, is_id_text_decides, Held, StandsAt, store_of, NamesAt, found_id}
use Rattle.mm_memory.specs.Naming.{IsPadded, store_of_text}

-- after a text there are spaces
space_from : (text : List ℕ) (k d : ℕ) → length text ≤ k → k < 8 → get_or (field_of text) k d ≡ 32
space_from text k d past within =
    get_or-append_right text (replicate (8 - length text) 32) (length text) k d refl past
    ∙ get_or-replicate (8 - length text) (k - length text) 32 d (omega arith)

module _ (text : List ℕ) (last : ℕ) (at_end : slice_get text (length text - 1) ≡ Some last) (no_space : last ≢ 32)
    (short : length text ≤ 8) (field : IsIdField (field_of text)) where
  -- the text of the identifier
  abbrev named : List ℕ
  named = id_text (field_of text)

  some : length text - 1 < length text
  some = slice_get_within text (length text - 1) last at_end

  octet_of : (k d : ℕ) → k < length text → get_or text k d ≡ get_or (field_of named) k d
  octet_of k d inside =
      sym (get_or-append text (replicate (8 - length text) 32) d k inside)
      ∙ ap (λ (f : List ℕ). get_or f k d) field.padded

  -- its last octet is no padding
  within : length text ≤ length named
  within = elim (cases_lt (length named) (length text)) [
    | inr h ↦ h
    | inl h ↦ absurd (no_space (sym (get_or_from_slice_get text (length text - 1) last 0 at_end)
        ∙ octet_of (length text - 1) 0 some ∙ space_from named (length text - 1) 0 (omega (arith, h, some))
        (omega (arith, some, short))))
  ]

  -- a text with no space at its end is that of the identifier whose field it is padded to
  pub is_text : IsIdText text
  is_text = record {
    has_some = omega (arith, some);
    at_most_eight = short;
    each = λ k d inside.
        let in_named : k < length named = omega (arith, inside, within) in
        subst (λ c. IsTrue (is_id_char c))
        (sym (octet_of k d inside ∙ get_or-append named (replicate (8 - length named) 32) d k in_named))
        (field.text.each k d in_named);
  }

-- the store that a text names, where the text passes this test
abbrev by_test : List ℕ → List Held → Bool → Option Held
by_test text stores t = if t then store_of (field_of text) stores else None

-- an identifier's text names the store with its field
pub store_is : (text : List ℕ) (stores : List Held) → IsIdText text
    → store_of_text text stores ≡ store_of (field_of text) stores
store_is text stores is = ap (by_test text stores) ((is_id_text_decides text).1 is)

-- another text names none
pub none_has : (text : List ℕ) (stores : List Held) → (IsIdText text → ⊥) → store_of_text text stores ≡ None
none_has text stores other = tested (is_id_text text) refl where
  tested : (t : Bool) → is_id_text text ≡ t → by_test text stores t ≡ None
  tested true e = absurd (other ((is_id_text_decides text).0 e))
  tested false e = refl

-- nor does one whose field no store has
pub none_stands : (text field : List ℕ) (stores : List Held) → IsPadded text field → store_of field stores ≡ None
    → store_of_text text stores ≡ None
none_stands text field stores padded none = tested (is_id_text text) where
  tested : (t : Bool) → by_test text stores t ≡ None
  tested true = subst (λ (f : List ℕ). store_of f stores ≡ None) padded.padded none
  tested false = refl

-- the store that has the field that a text is padded to is named by the text
pub names : (text field : List ℕ) (stores : List Held) (place : ℕ) (h : Held) → IsPadded text field
    → StandsAt field stores place → slice_get stores place ≡ Some h → IsIdField h.id → NamesAt text stores place
names text field stores place h padded stands at is = record {
  is_text = padded.is_text (subst IsIdField (found_id field stores h (stands.store ∙ at)) is);
  stands = subst (λ (f : List ℕ). StandsAt f stores place) padded.padded stands;
}
