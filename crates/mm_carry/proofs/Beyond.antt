-- What comes beyond the forecast costs no more than itself.
use Rattle.mm_carry.specs.Beyond.{AsForecast, IsIsolated, LosesAsInHindsight, LosesAtMost, beyond_at, lost_by_first}
use Rattle.mm_carry.specs.Beyond.{more_came}
use Rattle.mm_carry.specs.Numbers.{planned_counts, report_of, rows_of}
use Rattle.mm_carry.proofs.Words.{sum_by, range_with_len, sum_by_range_more, sum_by_range-le, sum_by_range_same}
use Rattle.mm_carry.proofs.Words.{sum_by-add, sum_by-map, sum_by-swap, Dumping, arrivals, steps, stores}
use Rattle.mm_problem.specs.Dumping.{size}
use Rattle.mm_problem.specs.declared.come.Arrivals.{Arrivals}
use Rattle.mm_problem.specs.declared.come.Arrivals.TheVariants.{Before, During}
use Rattle.mm_plan.specs.Volumes.{left_by, lost_by}
use Rattle.mm_carry.proofs.Words.{left_next, left_start, Amounts, left, lost, loss, store_loss, RunInput, as_came, ◌≡◌}
use Rattle.mm_carry.proofs.Words.{came, store_state, Held}
use Rattle.mm_carry.specs.Words.{Fits}
use Rattle.mm_carry.proofs.Words.{ℕ, zero, suc, ◌+◌, ◌-◌, ◌<◌, ◌≤◌, min, List, length, map, take, refl, ◌∙◌, ap, subst}
use Rattle.mm_carry.proofs.Words.{arith, add-one, take-map-range_with_len, sum_by_range_zeros, first_loss, StepCounts}
use Rattle.mm_carry.proofs.Counters.{came_at}

-- a sum over one step more
sum_next : (f : ℕ → ℕ) (n : ℕ) → sum_by f (range_with_len 1 (suc n)) ≡ sum_by f (range_with_len 1 n) + f (suc n)
sum_next f n =
    subst (λ k. sum_by f (range_with_len 1 k) ≡ sum_by f (range_with_len 1 n) + f k) (add-one n)
    (sum_by_range_more f 1 n (n + 1) (omega arith))

-- of a step, what is lost
lost_next : (q : Dumping) (x : Amounts) (s n : ℕ)
    → lost q x s (suc n) ≡ lost_by q.come (size q s (suc n)) (left q x s n + arrivals q s (suc n)) (x s (suc n))
lost_next q x s n =
    let back : suc n - 1 ≡ n = omega arith in
    ap (λ v. lost_by q.come (size q s (suc n)) (left q x s v + arrivals q s (suc n)) (x s (suc n))) back

-- nothing is left of a number that is taken from itself
none : (n : ℕ) → n - n ≡ 0
none n = omega arith

-- the costs of a step where arrivals come before dumps; none of those that stay are lost
costs_before : (v w a b z x m n : ℕ) → m ≡ 0 → n ≡ 0
    → (w + b - min (w + b) z + m)
    + ((min (w + b) z - min x (min (w + b) z)) - (min (v + a) z - min x (min (v + a) z)))
    ≤ (v + a - min (v + a) z + n) + (w - v) + (b - a)
costs_before v w a b z x m n no_more nor_here = omega (arith, no_more, nor_here)

-- the costs of p blocks that stay in a store of size z, beside those of q blocks; each can leave
costs_during : (m n p q z : ℕ) → m ≡ 0 → n ≡ 0
    → (m + (p - min p z)) + (min p z - min q z) ≤ (n + (q - min q z)) + (p - q)
costs_during m n p q z no_more nor_here = omega (arith, no_more, nor_here)

-- of more blocks, more stay by at most as many
stay_more : (more some x : ℕ) → (more - min x more) - (some - min x some) ≤ more - some
stay_more more some x = omega arith

-- of what two stores hold and what comes to them, the one is more by at most what each part is more
parts_more : (v w a b : ℕ) → (w + b) - (v + a) ≤ (w - v) + (b - a)
parts_more v w a b = omega arith

-- a bound that is raised twice
raised : (s t d g e f : ℕ) → s ≤ t + d → d ≤ g → g ≤ e + f → s ≤ t + e + f
raised s t d g e f below once twice = omega (arith, below, once, twice)

-- one step of a store of size z that holds v blocks, and of one that holds w: a blocks arrive, and b, and x are to
-- leave. The second loses, and then holds, more by at most what it held more and what arrived more
step_costs : (come : Arrivals) (v w a b z x : ℕ)
    → lost_by come z (w + b) x + (left_by come z (w + b) x - left_by come z (v + a) x)
    ≤ lost_by come z (v + a) x + (w - v) + (b - a)
step_costs Before v w a b z x =
    costs_before v w a b z x _ _ (none (min (w + b) z - min x (min (w + b) z)))
    (none (min (v + a) z - min x (min (v + a) z)))
step_costs During v w a b z x =
    let p = w + b - min x (w + b) in
    let q = v + a - min x (v + a) in
    raised _ _ _ _ (w - v) (b - a) (costs_during _ _ p q z (none (w + b)) (none (v + a)))
    (stay_more (w + b) (v + a) x) (parts_more v w a b)

-- the costs of a step are added to those of the steps before it
chain : (more_lost lost came d next_more_lost next_lost next_came next_d : ℕ) → more_lost + d ≤ lost + came
    → next_more_lost + next_d ≤ next_lost + d + next_came
    → (more_lost + next_more_lost) + next_d ≤ (lost + next_lost) + (came + next_came)
chain more_lost lost came d next_more_lost next_lost next_came next_d before here = omega (arith, before, here)

module _ (q : Dumping) (other : List ℕ) (x : Amounts) where
  -- the problem with other arrivals
  abbrev c : Dumping
  c = record q { arrived = other }

  -- the stores have the same sizes
  same_size : (s t : ℕ) → size c s t ≡ size q s t
  unfolding size
  same_size s t = refl

  -- how much more arrives
  abbrev more : ℕ → ℕ → ℕ
  more s t = arrivals c s t - arrivals q s t

  -- what a store loses up to a step, and holds after it, is more by at most what came more
  store_costs : (s n : ℕ)
      → sum_by (lost c x s) (range_with_len 1 n) + (left c x s n - left q x s n)
      ≤ sum_by (lost q x s) (range_with_len 1 n) + sum_by (more s) (range_with_len 1 n)
  store_costs s zero = omega (arith, left_start c x s, left_start q x s)
  store_costs s (suc n) =
      let here = step_costs q.come (left q x s n) (left c x s n) (arrivals q s (suc n)) (arrivals c s (suc n))
      (size q s (suc n)) (x s (suc n)) in
      rw (sum_next (lost c x s) n, sum_next (lost q x s) n, sum_next (more s) n)
      (chain _ _ _ _ _ _ _ _ (store_costs s n)
      (rw (lost_next c x s n, lost_next q x s n, left_next c x s n, left_next q x s n, same_size s (suc n)) here))

  -- where no more arrives at a store, it loses no more
  store_no_more : (s : ℕ) → ((t : ℕ) → 1 ≤ t → t ≤ length q.windows → arrivals c s t ≤ arrivals q s t)
      → store_loss c x s ≤ store_loss q x s
  store_no_more s each =
      let none = sum_by_range_zeros (more s) 1 (length q.windows)
      (λ t first last. omega (arith, each t first (omega arith))) in
      omega (arith, store_costs s (length q.windows), none)

  -- what all stores lose
  loss_costs : loss c x ≤ loss q x + sum_by (λ s. sum_by (more s) (steps q)) (stores q)
  loss_costs =
      let each = sum_by_range-le (store_loss c x) (λ s. store_loss q x s + sum_by (more s) (steps q)) 0 (length q.rows)
      (λ s _ _. omega (arith, store_costs s (length q.windows))) in
      omega (arith, each, sum_by-add (store_loss q x) (λ s. sum_by (more s) (steps q)) (stores q))

  -- where no more arrives, no more is lost
  loss_no_more : ((s t : ℕ) → s < length q.rows → 1 ≤ t → t ≤ length q.windows → arrivals c s t ≤ arrivals q s t)
      → loss c x ≤ loss q x
  loss_no_more each =
      let none = sum_by_range_zeros (λ s. sum_by (more s) (steps q)) 0 (length q.rows)
      (λ s _ store. sum_by_range_zeros (more s) 1 (length q.windows)
      (λ t first last. omega (arith, each s t (omega arith) first (omega arith)))) in
      omega (arith, loss_costs, none)

-- where what comes is what was forecast, a store loses of it what it loses of the forecast
same_store_loss : (m : RunInput) → AsForecast m → (s : ℕ) → s < length m.problem.rows
    → store_loss (as_came m) m.amounts s ≡ store_loss m.problem m.amounts s
same_store_loss m met s store =
    let same : (t : ℕ) → 1 ≤ t → t ≤ length m.problem.windows → arrivals (as_came m) s t ≡ arrivals m.problem s t =
    λ t first last. came_at m s t store first last ∙ met s t store first last in
    omega (
      arith,
      store_no_more m.problem (as_came m).arrived m.amounts s (λ t first last. omega (arith, same t first last)),
      store_no_more (as_came m) m.problem.arrived m.amounts s (λ t first last. omega (arith, same t first last)),
    )

-- the same of the first stores
same_first_loss : (m : RunInput) → AsForecast m → (k : ℕ) → k ≤ length m.problem.rows
    → first_loss k (as_came m) m.amounts ≡ first_loss k m.problem m.amounts
same_first_loss m met k within =
    sum_by_range_same (store_loss (as_came m) m.amounts) (store_loss m.problem m.amounts) 0 k
    (λ s _ below. same_store_loss m met s (omega arith))

-- and of all
pub same_loss : (m : RunInput) → AsForecast m → loss (as_came m) m.amounts ≡ loss m.problem m.amounts
same_loss m met = same_first_loss m met (length m.problem.rows) (omega arith)

-- what the first stores lose by the report of the first steps
lost_by_rows : (forecast came : Dumping) (x : Amounts) (k n : ℕ) → k ≤ length forecast.rows
    → lost_by_first k (rows_of forecast came x n) ≡ sum_by (λ s. sum_by (lost came x s) (range_with_len 1 n))
    (range_with_len 0 k)
lost_by_rows forecast came x k n within =
    let at = λ (t s : ℕ). planned_counts forecast came x s t in
    let lost_in = λ (row : List StepCounts). sum_by (λ y. y.lost) (take k row) in
    sum_by-map lost_in (λ t. map (at t) (stores forecast)) (range_with_len 1 n)
    ∙ sum_by_range_same (λ t. lost_in (map (at t) (stores forecast)))
    (λ t. sum_by (λ s. lost came x s t) (range_with_len 0 k)) 1 n
    (λ t _ _. ap (sum_by (λ y. y.lost)) (take-map-range_with_len (at t) 0 (length forecast.rows) k within)
    ∙ sum_by-map (λ y. y.lost) (at t) (range_with_len 0 k))
    ∙ sum_by-swap (λ t s. lost came x s t) (range_with_len 1 n) (range_with_len 0 k)

-- where what comes is what was forecast, the first stores lose in the run what they lose by the plan
pub first_lost_as_planned : (m : RunInput) → AsForecast m → (k : ℕ) → k ≤ length m.problem.rows
    → lost_by_first k (report_of m.problem (as_came m) m.amounts (length m.problem.windows)).steps
    ≡ first_loss k m.problem m.amounts
first_lost_as_planned m met k within =
    lost_by_rows m.problem (as_came m) m.amounts k (length m.problem.windows) within ∙ same_first_loss m met k within

-- how much more comes to a store than was forecast, by the problem with what comes in place of the forecast
more_at : (m : RunInput) (s : ℕ) → s < length m.problem.rows
    → sum_by (more m.problem (as_came m).arrived m.amounts s) (steps m.problem) ≡ beyond_at m s
more_at m s store =
    sum_by_range_same (more m.problem (as_came m).arrived m.amounts s) (more_came m s) 1 (length m.problem.windows)
    (λ t first last. ap (λ k. k - arrivals m.problem s t) (came_at m s t store first (omega arith)))

-- and how much less
less_at : (m : RunInput) (s : ℕ) → s < length m.problem.rows
    → sum_by (more (as_came m) m.problem.arrived m.amounts s) (steps m.problem)
    ≡ sum_by (λ t. arrivals m.problem s t - came m s t) (steps m.problem)
less_at m s store =
    sum_by_range_same (more (as_came m) m.problem.arrived m.amounts s) (λ t. arrivals m.problem s t - came m s t) 1
    (length m.problem.windows)
    (λ t first last. ap (λ k. arrivals m.problem s t - k) (came_at m s t store first (omega arith)))

-- the lost packets of a run, beside the loss of its plan
pub loses_at_most : (m : RunInput) (planned lost_in_run : ℕ) → loss m.problem m.amounts ≡ planned
    → lost_in_run ≡ loss (as_came m) m.amounts → LosesAtMost m planned lost_in_run
loses_at_most m planned lost_in_run planned_is total =
    let q = m.problem in
    let same = sum_by_range_same (λ s. sum_by (more q (as_came m).arrived m.amounts s) (steps q)) (beyond_at m) 0
    (length q.rows) (λ s _ store. more_at m s (omega arith)) in
    record {
      beyond = omega (arith, planned_is, total, same, loss_costs q (as_came m).arrived m.amounts);
      within = λ met.
          let no_more = loss_no_more q (as_came m).arrived m.amounts
          (λ s t store first last. omega (arith, came_at m s t store first last, met s t store first last)) in
          omega (arith, planned_is, total, no_more);
    }

-- in hindsight no plan loses fewer by more than came otherwise
pub loses_as_in_hindsight : (m : RunInput) (lost_in_run : ℕ) → LosesAtMost m (loss m.problem m.amounts) lost_in_run
    → ((other : Amounts) → Fits m.problem other → loss m.problem m.amounts ≤ loss m.problem other)
    → LosesAsInHindsight m lost_in_run
loses_as_in_hindsight m lost_in_run at_most least other fits =
    let q = m.problem in
    let same = sum_by_range_same (λ s. sum_by (more (as_came m) q.arrived other s) (steps q))
    (λ s. sum_by (λ t. arrivals q s t - came m s t) (steps q)) 0 (length q.rows)
    (λ s _ store. less_at m s (omega arith)) in
    omega (arith, at_most.beyond, least other fits, same, loss_costs (as_came m) q.arrived other)

-- each store loses at most what the plan loses in it, and its own surplus; and likewise the first stores
pub isolated : (m : RunInput) (left : List Held) (rows : List (List StepCounts))
    → ((s : ℕ) → s < length m.problem.rows → (store_state m left s).lost
    ≡ (store_state m m.memory.stores s).lost + store_loss (as_came m) m.amounts s)
    → rows ≡ rows_of m.problem (as_came m) m.amounts (length m.problem.windows) → IsIsolated m left rows
isolated m left rows losses are =
    let q = m.problem in
    let at : (s : ℕ) → s < length q.rows
    → store_loss (as_came m) m.amounts s ≤ store_loss q m.amounts s + beyond_at m s =
    λ s store. omega (arith, store_costs q (as_came m).arrived m.amounts s (length q.windows), more_at m s store) in
    record {
      each = λ s store. omega (arith, losses s store, at s store);
      firsts = λ k within.
          let sums = sum_by_range-le (store_loss (as_came m) m.amounts)
          (λ s. store_loss q m.amounts s + beyond_at m s) 0 k
          (λ s _ below. at s (omega arith)) in
          omega (
            arith,
            ap (lost_by_first k) are,
            lost_by_rows q (as_came m) m.amounts k (length q.windows) within,
            sums,
            sum_by-add (store_loss q m.amounts) (beyond_at m) (range_with_len 0 k),
          );
    }
