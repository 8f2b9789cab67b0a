-- Tables of volumes that grow place by place.
use Rattle.std.proofs.Common.{◌≡◌, ℕ, ◌+◌, ◌-◌, ◌*◌, ◌<◌, ◌≤◌, List, [], ◌∷◌, ◌++◌, length, get_or, sym}
use Rattle.std.proofs.Common.{◌∙◌, ap, inl, inr, arith}
use Rattle.std.proofs.lemmas.Bool.{cases_lt}
use Rattle.std.proofs.lemmas.List.{get_or_push, length_push, get_or_append_left, get_or_default}
use Rattle.mm_base.specs.Grid.{grid_place}
use Rattle.mm_plan.proofs.Places.{grid_place-lt, same_from_grid_place}
use Rattle.mm_problem.specs.Dumping.{Dumping}
use Rattle.mm_plan.specs.Volumes.{Amounts, left}
use Rattle.mm_plan.specs.Simulated.{no_volumes}
use Rattle.mm_plan.specs.Tabled.{volumes, AreTabled}
use Rattle.mm_plan.specs.declared.turn.StepVolumes.{StepVolumes}

-- one place more
pub tabled_push : (q : Dumping) (x : Amounts) (s t : ℕ) (table : List StepVolumes) → s < length q.rows → 1 ≤ t
    → AreTabled q x (grid_place (length q.rows) t s) table
    → AreTabled q x (grid_place (length q.rows) t s + 1) (table ++ volumes q x s t ∷ [])
tabled_push q x s t table store first tabled = record {
  places = omega (arith, length_push table (volumes q x s t), tabled.places);
  each = λ r u of_step from below. elim (cases_lt (grid_place (length q.rows) u r) (length table)) [
    | inl earlier ↦
        get_or_append_left table (volumes q x s t ∷ []) no_volumes (grid_place (length q.rows) u r) earlier
        ∙ tabled.each r u of_step from (omega (arith, tabled.places, earlier))
    | inr past ↦
        let place : grid_place (length q.rows) u r ≡ grid_place (length q.rows) t s =
        omega (arith, past, below, tabled.places) in
        let same = same_from_grid_place (length q.rows) u r t s of_step store from first place in
        get_or_push table (volumes q x s t) no_volumes (grid_place (length q.rows) u r) (tabled.places ∙ sym place)
        ∙ ap (λ v. volumes q x s v) (sym same.0)
        ∙ ap (λ k. volumes q x k u) (sym same.1)
  ];
}

-- what was left in the step before, where n is the number of stores
pub left_before : (q : Dumping) (x : Amounts) (table : List StepVolumes) (s n t : ℕ) (v : StepVolumes) → 2 ≤ t
    → n ≡ length q.rows → s < length q.rows → AreTabled q x (grid_place (length q.rows) t s) table
    → v ≡ get_or table (grid_place n (t - 1) s) v → v.left ≡ left q x s (t - 1)
left_before q x table s n t v later count store tabled is =
    let last : t - 1 ≡ t - 1 - 1 + 1 = omega arith in
    let all : grid_place (length q.rows) t s ≡ (t - 1 - 1 + 1) * length q.rows + s =
    ap (λ k. k * length q.rows + s) last in
    let within : grid_place (length q.rows) (t - 1) s < grid_place (length q.rows) t s = omega (arith, all) in
    let here = get_or_default table (grid_place (length q.rows) (t - 1) s) v no_volumes
    (omega (arith, within, tabled.places)) in
    ap (λ (w : StepVolumes). w.left) (rw count at is ∙ here ∙ tabled.each s (t - 1) store (omega arith) within)

-- as many places as the steps before this one have
pub last_place : (n t m : ℕ) → t ≡ m + 1 → grid_place n t 0 ≡ m * n
last_place n t m next = let same : m + 1 - 1 ≡ m = omega arith in rw (next, same) (omega arith)

-- each store and step of the problem has its place
pub table_place : (q : Dumping) (s t : ℕ) → s < length q.rows → 1 ≤ t → t ≤ length q.windows
    → grid_place (length q.rows) t s < length q.windows * length q.rows
table_place q s t store first last = grid_place-lt (length q.rows) (length q.windows) t s store first last
