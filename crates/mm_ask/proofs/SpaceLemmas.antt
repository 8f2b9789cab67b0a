-- Digits with no space between them.
use Rattle.std.proofs.Common.{◌≡◌, ℕ, ◌+◌, ◌≤◌, ◌==◌, Bool, true, false, not, cond, List, [], ◌∷◌, length, Some, None, refl, ap, arith}
use Rattle.std.specs.Prelude.{nat_lt}
use Rattle.std.specs.List.{position_or_len}
use Rattle.std.specs.Option.{option_map}
use Rattle.std.proofs.lemmas.Bool.Decides.{nat_tests}
use Rattle.mm_base.specs.Lines.{cut_word, parts_at}
use Rattle.mm_ask.specs.Reads.{without_spaces}

-- digits up to whose end there is no space
unspaced : (digits : List ℕ) → length digits ≤ position_or_len (λ c. c == 32) digits → without_spaces digits ≡ digits
unspaced [] far = refl
unspaced (c ∷ cs) far =
    elim (c == 32) as (λ b. length (c ∷ cs) ≤ cond (not b) (1 + position_or_len (λ x. x == 32) cs) 0 → cond (not b) (c ∷ without_spaces cs) (without_spaces cs) ≡ c ∷ cs) [
      | true ↦ λ beyond. absurd (omega arith)
      | false ↦ λ beyond. ap (λ rest. c ∷ rest) (unspaced cs (omega arith))
    ] far

-- a place that is not found
not_found : {A : Type 0} (f : ℕ → A) (test : Bool) (k : ℕ) → option_map f (cond test (Some k) None) ≡ None → test ≡ false
not_found f true k none = absurd (cc)
not_found f false k none = refl

-- digits in which no word ends
pub no_space : (digits : List ℕ) → cut_word digits ≡ None → without_spaces digits ≡ digits
no_space digits none =
    let beyond = not_found (parts_at digits) (nat_lt (position_or_len (λ c. c == 32) digits) (length digits)) (position_or_len (λ c. c == 32) digits) none in
    let far : length digits ≤ position_or_len (λ c. c == 32) digits = grind (arith, nat_tests) in
    unspaced digits far
