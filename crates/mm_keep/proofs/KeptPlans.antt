-- A plan that keeps the first steps of a plan, and has a least plan of the rest after them.
use Rattle.std.proofs.Common.{◌≡◌, ℕ, ◌+◌, ◌-◌, ◌<◌, ◌≤◌, length, length-drop, ap, subst, ◌∙◌, inl, inr, arith}
use Rattle.std.specs.List.{range_with_len, sum_by}
use Rattle.std.proofs.lemmas.Bool.{cases_lt}
use Rattle.mm_problem.specs.Dumping.{Dumping}
use Rattle.mm_plan.specs.Fit.{Fits, FitsAt, FitsBefore, in_step}
use Rattle.mm_plan.specs.Least.{IsLeast}
use Rattle.mm_plan.specs.Volumes.{Amounts, loss}
use Rattle.mm_plan.proofs.Raises.{fits_no_more}
use Rattle.mm_rest.specs.Laws.{LosesLeastAfter, PlansAnew, SameUntil, joined, later}
use Rattle.mm_rest.specs.Rests.{rest_after}
use Rattle.mm_rest.proofs.Later.{as_many, joined_after, joined_until, limit_at, loss_alike, stores_of_at, window_at}

-- a plan fits in a step where another one has the same amounts
fits_same : (q : Dumping) (x y : Amounts) (t : ℕ) → ((s : ℕ) → s < length q.rows → y s t ≡ x s t) → FitsAt q x t
    → FitsAt q y t
fits_same q x y t same = fits_no_more q x y t (λ s store. omega (arith, same s store))

module _ (q : Dumping) (x z y : Amounts) (n : ℕ) (before : n ≤ length q.windows)
    (both : SameUntil q (length q.windows) (joined n x z) y) where
  steps_left : n + length (rest_after q x n).windows ≡ length q.windows
  steps_left = omega (arith, length-drop n q.windows)

  -- its steps up to the step are those of the plan
  pub kept : SameUntil q n x y
  kept s t store first last = both s t store first (omega arith) ∙ joined_until n x z s t last

  -- its later ones are those of the plan for the rest
  later_same : SameUntil (rest_after q x n) (length (rest_after q x n).windows) z (later n y)
  later_same s t store first last =
      both s (n + t) (omega (arith, as_many q x n, store)) (omega arith) (omega (arith, steps_left, last))
      ∙ joined_after n x z s t first

  pub rest_loss : loss (rest_after q x n) (later n y) ≡ loss (rest_after q x n) z
  rest_loss = loss_alike (rest_after q x n) z (later n y) later_same

  pub least_rest : IsLeast (rest_after q x n) z → IsLeast (rest_after q x n) (later n y)
  least_rest least =
      record {
        fits = λ t first last. fits_same (rest_after q x n) z (later n y) t
            (λ s store. later_same s t store first (omega arith)) (least.fits t first last);
        least = λ w fits. omega (arith, rest_loss, least.least w fits);
      }

  -- no plan that fits and has the first steps loses fewer
  pub least_after : PlansAnew → IsLeast (rest_after q x n) z → LosesLeastAfter q n y
  least_after anew least w fits same =
      let fewest = anew q x z n before least w fits
      (λ s t store first last. same s t store first last ∙ both s t store first (omega arith)) in
      omega (arith, fewest, loss_alike q (joined n x z) y both)

  -- a later step fits in the whole problem where it fits in the rest
  later_fits : (t : ℕ) → 1 ≤ t → FitsAt (rest_after q x n) (later n y) t → FitsAt q y (n + t)
  later_fits t first fits =
      let sums = ap (λ L. sum_by (in_step y (n + t)) (range_with_len 0 L)) (as_many q x n) in
      record {
        windowed = omega (arith, sums, window_at q x n t first, fits.windowed);
        limited = λ c b is.
            let all = ap (sum_by (in_step y (n + t))) (stores_of_at q x n c) in
            omega (arith, all, fits.limited c b (limit_at q x n c t first ∙ is));
      }

  -- where the steps that are kept fit, the whole plan does
  pub fits : IsLeast (rest_after q x n) z → FitsBefore q x (n + 1) → Fits q y
  fits least fit t first last = elim (cases_lt n t) [
    | inl after ↦
        let place : n + (t - n) ≡ t = omega (arith, after) in
        subst (FitsAt q y) place (later_fits (t - n) (omega (arith, after))
        ((least_rest least).fits (t - n) (omega (arith, after)) (omega (arith, last, steps_left))))
    | inr until ↦ fits_same q x y t (λ s store. kept s t store first (omega (arith, until)))
        (fit t first (omega (arith, until)))
  ]
