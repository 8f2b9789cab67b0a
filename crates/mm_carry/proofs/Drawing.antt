-- What is given in a step that a plan fits, and draws from its window, which is not passed.
use Rattle.mm_carry.proofs.Words.{cases_lt, sum_by, count_by, range_with_len, sum_by_range_one, sum_by_range_same}
use Rattle.mm_carry.proofs.Words.{sum_by-swap, sum_by-same, sum_by_ones, cond-eqb_same, cond-eqb_other, Dumping, window}
use Rattle.mm_carry.proofs.Words.{FitsAt, Amounts, Stored, Entry, Held, times, RunInput, place_in_memory, IsDumpOf}
use Rattle.mm_carry.proofs.Words.{AreStepRuns, sent_amounts, taken_amounts, ◌≡◌, inl, inr, ℕ, ◌+◌, ◌*◌, ◌<◌, ◌≤◌, cond}
use Rattle.mm_carry.proofs.Words.{eqb, List, [], ◌∷◌, length, get_or, All, refl, sym, ap, ◌∙◌, arith}
use Rattle.mm_plan.proofs.Raises.{fits_no_more}
use Rattle.mm_carry.specs.Draws.{AreDrawsOf, MeetNoRefusal}

-- draws that the window has room for meet no refusal
with_room : (window drawn : ℕ) (draws : List ℕ) → drawn + length draws ≤ window → MeetNoRefusal window drawn draws
with_room window drawn [] room = tt
with_room window drawn (draw ∷ draws) room = (omega arith, with_room window (drawn + 1) draws (omega arith))

-- there are as many draws as those of each store together
by_store : (n : ℕ) (draws : List ℕ) → All (λ s. s < n) draws → sum_by (λ s. count_by (λ d. eqb d s) draws)
    (range_with_len 0 n) ≡ length draws
by_store n draws known =
    let swapped = sum_by-swap (λ (s d : ℕ). cond (eqb d s) 1 0) (range_with_len 0 n) draws in
    let ones = sum_by-same (λ (d : ℕ). sum_by (λ (s : ℕ). cond (eqb d s) 1 0) (range_with_len 0 n)) (λ _. 1) draws
    (λ k d within. one_store (get_or draws k d) (known k d within)) in
    swapped ∙ ones ∙ sum_by_ones draws
  where
    one_store : (d : ℕ) → d < n → sum_by (λ (s : ℕ). cond (eqb d s) 1 0) (range_with_len 0 n) ≡ 1
    one_store d within =
        sum_by_range_one (λ (s : ℕ). cond (eqb d s) 1 0) 0 n d (omega arith) (omega arith)
        (λ s from to other. cond-eqb_other d s 1 (λ same. other (sym same))) ∙ cond-eqb_same d d 1 refl

-- an order is given no more than it wants
given_within : (wanted : ℕ) (gave : List Stored) (calls : List Entry) → IsDumpOf wanted gave calls → length gave
    ≤ wanted
given_within wanted gave calls is = elim (cases_lt 0 wanted) [
  | inl some ↦ (is.whole (omega arith)).1.most
  | inr none ↦ let nothing = ap length (is.none (omega arith)).0 in omega (arith, nothing)
]

-- what was sent in a whole step fits
pub whole_fits : (m : RunInput) (steps : ℕ) (stores : ℕ → List Held) (gave : ℕ → ℕ → List Stored)
    → AreStepRuns m steps stores gave
    → (t : ℕ) → 1 ≤ t → t ≤ steps → FitsAt m.problem m.amounts t → FitsAt m.problem (sent_amounts m gave) t
whole_fits m steps stores gave are t first last fits =
    fits_no_more m.problem m.amounts (sent_amounts m gave) t
    (λ s store. let run = are.runs s t store first last in given_within (m.amounts s t) (gave (place_in_memory m s) t)
    run.dumped run.dump) fits

-- at most once as much is at most as much
once_most : (n l : ℕ) → n ≤ 1 → n * l ≤ l
once_most n l few = grind arith

-- what the links took in a whole step fits, where they took each order once at most
pub taken_fits : (m : RunInput) (steps : ℕ) (stores : ℕ → List Held) (gave : ℕ → ℕ → List Stored)
    (took : ℕ → List (List ℕ)) → AreStepRuns m steps stores gave
    → (t : ℕ) → 1 ≤ t → t ≤ steps → ((s : ℕ) → s < length m.problem.rows → sum_by (times (place_in_memory m s)) (took t)
    ≤ 1)
    → FitsAt m.problem m.amounts t → FitsAt m.problem (taken_amounts m gave took) t
taken_fits m steps stores gave took are t first last once fits =
    fits_no_more m.problem (sent_amounts m gave) (taken_amounts m gave took) t
    (λ s store. once_most (sum_by (times (place_in_memory m s)) (took t)) (length (gave (place_in_memory m s) t))
    (once s store)) (whole_fits m steps stores gave are t first last fits)

-- the draws of a step that a plan fits meet no refusal
pub no_refusal : (q : Dumping) (x : Amounts) (t : ℕ) (gave : ℕ → List Stored) (calls : ℕ → List Entry) (draws : List ℕ)
    → FitsAt q x t → ((s : ℕ) → s < length q.rows → IsDumpOf (x s t) (gave s) (calls s))
    → AreDrawsOf (length q.rows) gave draws → MeetNoRefusal (window q t) 0 draws
no_refusal q x t gave calls draws fits orders are =
    let n = length q.rows in
    let many = by_store n draws are.known in
    let one_each = sum_by_range_same (λ s. count_by (λ d. eqb d s) draws) (λ s. length (gave s)) 0 n
    (λ s from to. are.one_each s (omega arith)) in
    let given : sum_by (λ s. length (gave s)) (range_with_len 0 n) ≤ window q t =
    (fits_no_more q x (λ s u. length (gave s)) t (λ s store. given_within (x s t) (gave s) (calls s) (orders s store))
    fits).windowed in
    with_room (window q t) 0 draws (omega (arith, many, one_each, given))
