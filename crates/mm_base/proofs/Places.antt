-- The first place of an octet.
use Rattle.std.proofs.Common.{◌≡◌, ℕ, ◌==◌, Bool, true, false, List, length, Option, Some, None, refl, arith}
use Rattle.std.specs.Prelude.{position}
use Rattle.std.specs.List.{position_or_len}
use Rattle.std.proofs.lemmas.Bool.Decides.{nat_tests}
use Rattle.std.proofs.lemmas.List.Sums.{position_or_len_is}
use Rattle.memchr.specs.Find.{IsFirstByte, is_byte}

-- a test that does not hold is false
fails : (b : Bool) → ¬ (b ≡ true) → b ≡ false
fails true none = absurd (none refl)
fails false none = refl

-- the search for an octet finds its first place
pub first_place : (c : ℕ) (text : List ℕ) (r : Option ℕ) → IsFirstByte (is_byte c) text r
    → r ≡ position (λ x. x == c) text
first_place c text None nowhere =
    let all : position_or_len (λ x. x == c) text ≡ length text = position_or_len_is (λ x. x == c) text (length text) 0
    (omega arith) (λ k within. fails _ (nowhere k (omega arith) within)) (λ beyond. absurd (omega arith)) in
    grind (arith, nat_tests)
first_place c text (Some k) found =
    let within = found.0.high in
    let at : position_or_len (λ x. x == c) text ≡ k = position_or_len_is (λ x. x == c) text k 0 (omega arith)
    (λ j before. fails _ (found.0.before j (omega arith) before)) (λ _. found.1) in
    grind (arith, nat_tests)
