-- Words that ask for the version.
use Rattle.std.proofs.Common.{◌≡◌, ℕ, List, [], ◌∷◌, false, length, slice_get, Some, refl, arith, ap}
use Rattle.std.specs.Prelude.{map}
use Rattle.std.specs.Option.{unwrap_or}
use Rattle.mm_command_line.specs.Lines.{is_version_line, is_version_word}

-- any other number of words does not
pub other_lengths : {A : Type 0} (text : A → List ℕ) (words : List A) → (length words ≡ 1 → ⊥)
    → is_version_line (map text words) ≡ false
other_lengths text [] other = refl
other_lengths text (word ∷ []) other = absurd (other refl)
other_lengths text (word ∷ next ∷ rest) other = refl

-- one word does where it is such a word
pub one_word : {A : Type 0} (text : A → List ℕ) (words : List A) (word : A) → length words ≡ 1
    → slice_get words 0 ≡ Some word
    → is_version_line (map text words) ≡ is_version_word (text word)
one_word text [] word one at = absurd (omega (arith, one))
one_word text (first ∷ []) word one at = ap (λ found. is_version_word (text (unwrap_or found word))) at
one_word text (first ∷ next ∷ rest) word one at = absurd (omega (arith, one))
