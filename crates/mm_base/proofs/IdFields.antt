-- Identifiers: the text and the field determine each other.
use Rattle.std.proofs.Common.{◌≡◌, ℕ, ◌-◌, ◌<◌, ◌≤◌, nat_le, true, false, ◌==◌, List, [], ◌∷◌, length, get_or, take}
use Rattle.std.proofs.Common.{drop, refl, sym, ◌∙◌, ap, subst, inl, inr, arith, length-append}
use Rattle.std.specs.Bool.{Decides}
use Rattle.std.specs.Prelude.{IsTrue}
use Rattle.std.specs.List.{position_or_len, list_all}
use Rattle.std.proofs.Math.ListN.{replicate, get_or-append}
use Rattle.std.proofs.lemmas.Bool.{false≢true}
use Rattle.std.proofs.lemmas.Bool.Decides.{eqb_tells, nat_tests, Decides-and, Decides-by_and, Decides-like}
use Rattle.std.proofs.lemmas.Slice.Eq.{bytes_eq-Decides}
use Rattle.std.proofs.lemmas.List.{length-replicate, drop-replicate, get_or-replicate, get_or-append_right}
use Rattle.std.proofs.lemmas.List.Sums.{position_or_len_is}
use Rattle.std.proofs.Math.Seq.{take-append_seam}
use Rattle.mm_base.specs.Id.{is_id_char, is_id_text, is_id, IsIdText, IsIdField, field_of, id_text}

-- eight spaces without the first n are 8 - n spaces
pub padding : (n : ℕ) → drop {A = ℕ} n (32 ∷ 32 ∷ 32 ∷ 32 ∷ 32 ∷ 32 ∷ 32 ∷ 32 ∷ []) ≡ replicate (8 - n) 32
padding n = drop-replicate n 8 32

-- a character of an identifier is no space
no_space : (c : ℕ) → IsTrue (is_id_char c) → (c == 32) ≡ false
no_space c h = elim (eqb_tells c 32)
    [ inl p ↦ absurd (false≢true (subst (λ x. is_id_char x ≡ true) p.1 h)) | inr q ↦ q.0 ]

-- the octet after the text is a space
space_at : (text : List ℕ) (d : ℕ) → length text < length (field_of text) → get_or (field_of text) (length text) d ≡ 32
space_at text d within =
    let room : 0 < 8 - length text =
    omega (arith, length-append text (replicate (8 - length text) 32), length-replicate {A = ℕ} (8 - length text) 32) in
    get_or-append_right text (replicate (8 - length text) 32) (length text) (length text) d refl (omega arith)
    ∙ get_or-replicate (8 - length text) (length text - length text) 32 d (omega arith)

-- the padding begins where the text ends
pub text_ends : (text : List ℕ) → IsIdText text → position_or_len (λ c. c == 32) (field_of text) ≡ length text
text_ends text h = position_or_len_is (λ c. c == 32) (field_of text) (length text) 0
    (omega (arith, length-append text (replicate (8 - length text) 32)))
    (λ k lt. ap (λ c. c == 32) (get_or-append text (replicate (8 - length text) 32) 0 k lt)
    ∙ no_space (get_or text k 0) (h.each k 0 lt))
    (λ within. ap (λ c. c == 32) (space_at text 0 within))

-- the text in the field of a text is that text
pub id_text-field_of : (text : List ℕ) → IsIdText text → id_text (field_of text) ≡ text
id_text-field_of text h = ap (λ n. take n (field_of text)) (text_ends text h)
    ∙ take-append_seam text (replicate (8 - length text) 32)

-- the padded text of an identifier is the field of an identifier
pub field_of-IsIdField : (text : List ℕ) → IsIdText text → IsIdField (field_of text)
field_of-IsIdField text h = record {
  text = subst IsIdText (sym (id_text-field_of text h)) h;
  padded = ap field_of (sym (id_text-field_of text h));
}

-- nat_le decides the order
pub Decides-nat_le : (a b : ℕ) → Decides (nat_le a b) (a ≤ b)
Decides-nat_le a b = (λ h. grind (arith, nat_tests), λ h. grind (arith, nat_tests))

-- is_id_text decides whether a text is an identifier
pub is_id_text_decides : (text : List ℕ) → Decides (is_id_text text) (IsIdText text)
is_id_text_decides text =
    Decides-like (is_id_text text)
    (λ h. record { has_some = h.0.0; at_most_eight = h.0.1; each = h.1 })
    (λ h. ((h.has_some, h.at_most_eight), h.each))
    (Decides-and _ _ (Decides-and _ _ (Decides-nat_le 1 (length text)) (Decides-nat_le (length text) 8))
    (Decides-by_and is_id_char (λ c. IsTrue (is_id_char c)) (list_all is_id_char) (λ c. (λ h. h, λ h. h)) refl
    (λ _ _. refl) text))

-- is_id decides whether octets are the field of an identifier
is_field : (octets : List ℕ) → Decides (is_id octets) (IsIdField octets)
is_field octets =
    Decides-like (is_id octets)
    (λ h. record { text = h.0; padded = h.1 })
    (λ h. (h.text, h.padded))
    (Decides-and _ _ (is_id_text_decides (id_text octets)) (bytes_eq-Decides octets (field_of (id_text octets))))

-- the test holds for the field of an identifier
pub is_id-field : (octets : List ℕ) → IsIdField octets → true ≡ is_id octets
is_id-field octets h = sym ((is_field octets).1 h)

-- the test fails for any other octets
pub is_id-other : (octets : List ℕ) → (IsIdField octets → ⊥) → false ≡ is_id octets
is_id-other octets other =
    elim (is_id octets) as (λ t. is_id octets ≡ t → false ≡ t) [
      | true ↦ λ h. absurd (other ((is_field octets).0 h))
      | false ↦ λ h. refl
    ] refl
