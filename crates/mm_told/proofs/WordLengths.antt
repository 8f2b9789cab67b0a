-- How long the parts of the words of a refusal are at most.
use Rattle.std.proofs.Common.{◌≡◌, ℕ, ◌≤◌, Bool, true, false, not, ◌&&◌, ◌==◌, List, length, arith, refl}
use Rattle.std.proofs.lemmas.Bool.{false≢true}
use Rattle.std.proofs.lemmas.Bool.Decides.{nat_tests}
use Rattle.std.specs.List.{list_all}
use Rattle.std.specs.Prelude.{IsTrue, nat_le}
use Rattle.mm_base.specs.Refusals.{name_of}
use Rattle.mm_base.specs.declared.refusal.Refusal.{Refusal}
use Rattle.mm_base.specs.declared.refusal.Refusal.TheVariants as refusal
use Rattle.mm_problem.specs.Name.{text_of}
use Rattle.mm_problem.specs.declared.fault.Name.{Name}
use Rattle.mm_problem.specs.declared.fault.Name.TheVariants as name
use Rattle.mm_told.specs.Phrase.{is_phrase, is_printable}

-- the name of a refusal
refusal-within : (r : Refusal) → nat_le (length (name_of r)) 24 ≡ true
refusal-within refusal.NoMemory = refl
refusal-within other = search refl

pub refusal_fits : (r : Refusal) → length (name_of r) ≤ 24
refusal_fits r = grind (arith, nat_tests, refusal-within r)

-- the name of a key or a column
key-within : (n : Name) → nat_le (length (text_of n)) 10 ≡ true
key-within name.Store = refl
key-within other = search refl

pub key_fits : (n : Name) → length (text_of n) ≤ 10
key_fits n = grind (arith, nat_tests, key-within n)

-- the second of three tests that pass
second : (a b c : Bool) → (a && b && c) ≡ true → b ≡ true
second true true c all = refl
second true false c all = all
second false b c all = absurd (false≢true all)

-- what was expected, and what to do
pub phrase_fits : (text : List ℕ) → IsTrue (is_phrase text) → length text ≤ 160
phrase_fits text is =
    let within = second (not (length text == 0)) (nat_le (length text) 160) (list_all is_printable text) is in
    grind (arith, nat_tests, within)
