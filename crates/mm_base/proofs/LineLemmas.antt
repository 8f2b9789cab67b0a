-- The first line of a text ends at the first line feed.
use Rattle.std.proofs.Common.{◌≡◌, ℕ, ◌+◌, ◌-◌, ◌<◌, ◌≤◌, Bool, true, false, not, ◌==◌, cond, List, [], ◌∷◌, length}
use Rattle.std.proofs.Common.{get_or, take, drop, Some, None, refl, sym, ap, ◌∙◌, arith, length-drop}
use Rattle.std.specs.Prelude.{nat_lt, position}
use Rattle.std.specs.List.{position_or_len}
use Rattle.std.proofs.lemmas.Bool.Decides.{nat_tests}
use Rattle.std.proofs.lemmas.List.{take_all}
use Rattle.std.proofs.lemmas.List.Sums.{prefix_len_passes}
use Rattle.std.proofs.lemmas.List.Splits.{slice_split_none, slice_split_first}
use Rattle.mm_base.specs.Lines.{text_lines}

-- a place that was found passed the test
found_at : (test : Bool) (k i : ℕ) → cond test (Some k) None ≡ Some i → (test ≡ true) × (k ≡ i)
found_at true k i e = (refl, cc)
found_at false k i e = absurd (cc)

-- if no place was found, the test failed
not_found : (test : Bool) (k : ℕ) → cond test (Some k) None ≡ None → test ≡ false
not_found true k e = absurd (cc)
not_found false k e = refl

pub split_at_feed : (text : List ℕ) (i : ℕ) → position (λ c. c == 10) text ≡ Some i
    → text_lines text ≡ take i text ∷ text_lines (take (length text - (i + 1)) (drop (i + 1) text))
split_at_feed text i e =
    let at = found_at (nat_lt (position_or_len (λ c. c == 10) text) (length text))
    (position_or_len (λ c. c == 10) text) i e in
    let within : position_or_len (λ c. c == 10) text < length text = grind (arith, nat_tests) in
    let parts = slice_split_first (λ c. c == 10) text 0 within in
    let k = at.1 in
    let whole = take_all (length text - (i + 1)) (drop (i + 1) text) (omega (arith, length-drop (i + 1) text)) in
    parts ∙ ap (λ n. take n text ∷ text_lines (drop (n + 1) text)) k
    ∙ ap (λ rest. take i text ∷ text_lines rest) (sym whole)

-- a test whose negation is true is false
passed_over : (b : Bool) → not b ≡ true → b ≡ false
passed_over true e = absurd (cc)
passed_over false e = refl

pub no_feed : (text : List ℕ) → position (λ c. c == 10) text ≡ None → text_lines text ≡ text ∷ []
no_feed text e =
    let beyond = not_found (nat_lt (position_or_len (λ c. c == 10) text) (length text))
    (position_or_len (λ c. c == 10) text) e in
    let far : length text ≤ position_or_len (λ c. c == 10) text = grind (arith, nat_tests) in
    slice_split_none (λ c. c == 10) text
    (λ k d within. passed_over (get_or text k d == 10) (prefix_len_passes (λ c. not (c == 10)) text k d (omega arith)))
