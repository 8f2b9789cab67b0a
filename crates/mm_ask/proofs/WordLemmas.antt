-- The words of an identifier, and of octets that are none.
use Rattle.std.proofs.Common.{◌≡◌, ℕ, List, refl, sym}
use Rattle.hex.specs.Hex.{encode_upper}
use Rattle.mm_base.specs.Id.{IsIdField, id_text}
use Rattle.mm_base.proofs.IdFields.{is_id-field, is_id-other}
use Rattle.mm_ask.specs.EntryWords.{id_words}

pub words_of_id : (octets : List ℕ) → IsIdField octets → id_words octets ≡ id_text octets
unfolding id_words
words_of_id octets is = rw (sym (is_id-field octets is)) refl

pub words_of_other : (octets : List ℕ) → (IsIdField octets → ⊥) → id_words octets ≡ encode_upper octets
unfolding id_words
words_of_other octets other = rw (sym (is_id-other octets other)) refl
