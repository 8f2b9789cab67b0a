-- Tests of numbers, and values that count only if a test passes.
use Rattle.std.proofs.Common.{◌≡◌, ◌≢◌, ℕ, ◌<◌, Bool, true, false, cond, eqb, refl, arith}
use Rattle.std.proofs.lemmas.Bool.{cond-true, cond-false, eq-eqb, ne_eqb}

-- the value counts if the two numbers are equal
pub cond-eqb_same : (a b n : ℕ) → a ≡ b → cond (eqb a b) n 0 ≡ n
cond-eqb_same a b n same = cond-true (eqb a b) n 0 (eq-eqb a b same)

-- the value does not count if they differ
pub cond-eqb_other : (a b n : ℕ) → a ≢ b → cond (eqb a b) n 0 ≡ 0
cond-eqb_other a b n other = cond-false (eqb a b) n 0 (ne_eqb a b other)

-- a value that counts has passed the test
pub true-from_cond : (b : Bool) (n : ℕ) → 0 < cond b n 0 → b ≡ true
true-from_cond true n some = refl
true-from_cond false n some = absurd (omega arith)
