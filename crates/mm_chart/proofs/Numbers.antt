-- Numbers of steps, stretches that were looked up, identifiers, heights and outlines, as a chart has them.
use Rattle.std.proofs.Common.{◌≡◌, ℕ, ◌<◌, ◌≤◌, arith, get_or, inl, inr, length, Bool, List, [], ◌∷◌, ◌||◌, refl, ap}
use Rattle.std.proofs.Common.{All, zero, suc, ◌+◌, ◌-◌, ◌*◌, ◌/◌, ◌++◌, append_assoc}
use Rattle.std.proofs.Math.ListN.{replicate}
use Rattle.std.proofs.lemmas.Bool.{cases_lt}
use Rattle.std.proofs.lemmas.List.{get_or-replicate, get_or_past, length-replicate}
use Rattle.std.proofs.lemmas.Bool.Decides.{nat_tests}
use Rattle.std.specs.Prelude.{map, IsTrue, flat_map}
use Rattle.std.specs.List.{list_any, range_with_len}
use Rattle.std.proofs.lemmas.List.Elements.{All-head, All-tail}
use Rattle.std.proofs.Math.Nat.{div-eq_of_lt}
use Rattle.mm_base.specs.Id.{is_id_char}
use Rattle.mm_chart.specs.Picture.{Drawn}
use Rattle.mm_chart.specs.declared.series.Series.{Series}
use Rattle.mm_chart.specs.Series.{amount_of, amount_at, scaled}
use Rattle.mm_chart.specs.Svg.{escaped_char, escaped, height_of, bar_line, step_outline}
use Rattle.mm_chart.specs.Layout.{edge, base_of}
use Rattle.mm_chart.proofs.Ranges.{flat_map_next}

-- at a step it is the number of the step
pub amount_at_step : (p : Drawn) (x : Series) (t : ℕ) → 1 ≤ t → t ≤ length p.problem.windows
    → amount_at p x t ≡ amount_of p x t
amount_at_step p x t first last = grind (arith, nat_tests)

-- after the last step it is 0
pub amount_at_past : (p : Drawn) (x : Series) (t : ℕ) → length p.problem.windows < t → amount_at p x t ≡ 0
amount_at_past p x t past = grind (arith, nat_tests)

-- before the first step it is 0
pub amount_at_before : (p : Drawn) (x : Series) (t : ℕ) → t < 1 → amount_at p x t ≡ 0
amount_at_before p x t before = grind (arith, nat_tests)

-- no number is there at first
pub no_amounts : (n t : ℕ) → ◌≡◌ {A = ℕ} (get_or (replicate n 0) t 0) 0
no_amounts n t = elim (cases_lt t n) [
  | inl below ↦ get_or-replicate {A = ℕ} n t 0 0 below
  | inr past ↦ get_or_past {X = ℕ} (replicate n 0) t 0 (omega (arith, length-replicate {A = ℕ} n 0))
]

pub list_any_map : {X Y : Type 0} (test : Y → Bool) (make : X → Y) (xs : List X)
    → list_any test (map make xs) ≡ list_any (λ x. test (make x)) xs
list_any_map test make [] = refl
list_any_map test make (x ∷ xs) = ap (λ b. test (make x) || b) (list_any_map test make xs)

-- a character of an identifier stands for itself
plain_char : (c : ℕ) → IsTrue (is_id_char c) → escaped_char c ≡ c ∷ []
plain_char c is = grind (arith, nat_tests)

-- nothing in an identifier wants to be escaped
pub escaped_id : (text : List ℕ) → All (λ c. IsTrue (is_id_char c)) text → escaped text ≡ text
unfolding escaped
escaped_id [] each = refl
escaped_id (c ∷ cs) each =
    let here = plain_char c (All-head (λ d. IsTrue (is_id_char d)) c cs each) in
    rw here (ap (λ rest. c ∷ rest) (escaped_id cs (All-tail (λ d. IsTrue (is_id_char d)) c cs each)))

-- nothing has no height
pub scaled_none : (height whole : ℕ) → 0 ≡ scaled height whole 0
scaled_none height zero = refl
scaled_none height (suc whole) =
    let none : (0 * height + (suc whole - 1)) / suc whole ≡ 0 = div-eq_of_lt (omega arith) in
    rw none (grind (arith, nat_tests))

-- one step more
pub outlined_more : (p : Drawn) (x : Series) (w t base before here : ℕ) (start text new : List ℕ)
    → 1 ≤ t → base ≡ base_of p.problem x → before ≡ height_of p x w (t - 1) → here ≡ height_of p x w t
    → text ≡ start ++ flat_map (step_outline p x w) (range_with_len 1 (t - 1))
    → new ≡ text ++ bar_line (edge p.problem (t - 1)) (edge p.problem t) base before here
    → new ≡ start ++ flat_map (step_outline p x w) (range_with_len 1 (t + 1 - 1))
unfolding step_outline
outlined_more p x w t base before here start text new first is_base is_before is_here is_text is_new =
    let more = flat_map_next (step_outline p x w) t first in
    rw (more, ← append_assoc) (rw (is_base, is_before, is_here, is_text) at is_new)
