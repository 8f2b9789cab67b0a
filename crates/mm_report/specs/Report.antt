-- The report of a run: a row of counts for each whole step.
use Rattle.std.specs.Prelude.{◌≡◌, ℕ, zero, suc, ◌-◌, ◌*◌, ◌≤◌, List, [], ◌∷◌, length, take, drop, sum_by, slice_index_or}
use Rattle.mm_report.specs.declared.counts.StepCounts.{StepCounts}
use Rattle.mm_report.specs.declared.counts.Totals.{Totals}

-- the identifiers of the stores, the steps that there is room for, and for each whole step the counts of each store in order
pub record Reported : Type 0 where
  pub ids : List (List ℕ)
  pub most : ℕ
  pub steps : List (List StepCounts)

-- what the last step brought
abbrev pub last_of : List (List StepCounts) → List StepCounts
last_of steps = slice_index_or steps (length steps - 1) []

-- what all steps brought to all stores; what is held is held as the last step ends
abbrev pub totals_of : List (List StepCounts) → Totals
totals_of steps = record {
  arrived = sum_by (sum_by (λ x. x.arrived)) steps;
  lost = sum_by (sum_by (λ x. x.lost)) steps;
  dumped = sum_by (sum_by (λ x. x.dumped)) steps;
  held = sum_by (λ x. x.held) (last_of steps);
}

-- the sums of these counts
abbrev pub totals_in : List StepCounts → Totals
totals_in all = record {
  arrived = sum_by (λ x. x.arrived) all;
  lost = sum_by (λ x. x.lost) all;
  dumped = sum_by (λ x. x.dumped) all;
  held = sum_by (λ x. x.held) all;
}

-- k rows of n counts, which stand one after the other
abbrev pub in_rows : ℕ → ℕ → List StepCounts → List (List StepCounts)
in_rows n zero counts = []
in_rows n (suc k) counts = take n counts ∷ in_rows n k (drop n counts)

-- there are whole rows, no more than there is room for
pub record IsRoomy (n most steps len capacity : ℕ) : Type 0 where
  pub whole : len ≡ steps * n
  pub within : steps ≤ most
  pub room : most * n ≤ capacity
