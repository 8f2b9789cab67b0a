-- From a flow to a plan: it fits, and what it loses and the flow's value are together at most what comes.
use Rattle.std.proofs.Common.{◌≡◌, ℕ, zero, suc, ◌+◌, ◌-◌, ◌<◌, ◌≤◌, min, cond, eqb, All, length, refl, sym, ap, ◌∙◌, arith, add-one}
use Rattle.std.specs.List.{sum_by, range_with_len}
use Rattle.std.proofs.lemmas.Bool.{cond-false, ne_eqb}
use Rattle.mm_problem.proofs.Limits.{limit_is_within}
use Rattle.mm_base.proofs.Grids.{grid}
use Rattle.mm_base.proofs.Groups.{sum_by-le_groups}
use Rattle.mm_base.proofs.RangeSums.{sum_by_range_more, sum_by_range-le, sum_by_range_same}
use Rattle.mm_base.proofs.Ranges.{All-range_with_len}
use Rattle.mm_base.proofs.Sums.{sum_by-add, sum_by-filter, sum_by-swap}
use Rattle.mm_problem.specs.Dumping.{Dumping, IsDumping, size, start, channel, window, arrivals, is_of, stores, steps}
use Rattle.mm_plan.specs.Volumes.{Amounts, left_by, left, there, written, lost, store_loss, loss, first_loss}
use Rattle.mm_plan.specs.Fit.{in_step, FitsLimit, Fits}
use Rattle.mm_plan.proofs.Steps.{left_step, left_start, step_balance}
use Rattle.mm_flow.specs.Flow.{Flow, IsFlow}
use Rattle.mm_planner.specs.declared.nodes.TheConstants.{SOURCE, SINK}
use Rattle.mm_planner.specs.Network.{inflow, net}
use Rattle.mm_planner.specs.Taken.{AreTaken}
use Rattle.mm_planner.proofs.Dumps.{IsKept, is_kept}
use Rattle.mm_planner.proofs.KindSums.{come, hold, keep, leave, pass_on, channel_within}
use Rattle.mm_planner.proofs.Capacities.{come_within, hold_within, pass_on_within, send_within}
use Rattle.mm_planner.proofs.Conserved.{carried, in_conserved, out_conserved, channel_conserved, pass_conserved, come_is_value}

-- a sum over one step more
pub sum_by_steps-suc : (f : ℕ → ℕ) (n : ℕ) → sum_by f (range_with_len 1 (suc n)) ≡ sum_by f (range_with_len 1 n) + f (suc n)
sum_by_steps-suc f n =
    let at : 1 + n ≡ suc n = omega arith in
    ap (λ k. sum_by f (range_with_len 1 k)) (sym (add-one n)) ∙ sum_by_range_more f 1 n (suc n) at

-- what a store holds as the first step begins, and nothing for later ones
abbrev pub opening_at : Dumping → ℕ → ℕ → ℕ
opening_at q zero s = start q s
opening_at q (suc t) s = 0

-- what comes to a store is what arrives and what it opens with
pub inflow_is : (q : Dumping) (t s : ℕ) → inflow q (suc t) s ≡ arrivals q s (suc t) + opening_at q t s
inflow_is q zero s = refl
inflow_is q (suc t) s = let later = cond-false (eqb (suc (suc t)) 1) (start q s) 0 (ne_eqb (suc (suc t)) 1 (λ same. omega arith)) in omega (arith, later)

module _ (q : Dumping) (is : IsDumping q) (f : Flow) (value : ℕ) (flow : IsFlow (net q) SOURCE SINK f value) (x : Amounts) (taken : AreTaken q f x) where
  -- what stood in a store before a step
  left_before : (s t : ℕ) → left q x s (suc t - 1) ≡ left q x s t
  left_before s t = let e : suc t - 1 ≡ t = omega arith in ap (left q x s) e

  -- what comes and what was kept is at most what arrives and what was left
  comes_within : (t s : ℕ) → t < length q.windows → s < length q.rows → carried q f t s ≤ left q x s t → come q f (suc t) s + carried q f t s ≤ left q x s t + arrivals q s (suc t)
  comes_within zero s within below so_far =
      omega (arith, come_within q (inflow q) f flow.within (suc zero) s (omega arith) (omega arith) below, inflow_is q zero s, left_start q x s)
  comes_within (suc t) s within below so_far =
      omega (arith, come_within q (inflow q) f flow.within (suc (suc t)) s (omega arith) (omega arith) below, inflow_is q (suc t) s, so_far)

  -- what a flow does in a step, a plan can do that dumps as much
  step_kept : (t s : ℕ) → t < length q.windows → s < length q.rows → carried q f t s ≤ left q x s t
      → IsKept q.come (size q s (suc t)) (there q x s (suc t)) (keep q f (suc t) s) (leave q f (suc t) s)
      (come q f (suc t) s + carried q f t s)
  step_kept t s within below so_far =
      let income : come q f (suc t) s + carried q f t s ≤ there q x s (suc t) =
      omega (arith, comes_within t s within below so_far, left_before s t) in
      is_kept q.come (size q s (suc t)) (there q x s (suc t)) (hold q f (suc t) s) (keep q f (suc t) s)
      (leave q f (suc t) s) (come q f (suc t) s + carried q f t s)
      (in_conserved q (inflow q) is f value flow t s within below)
      (out_conserved q (inflow q) is f value flow (suc t) s (omega arith) (omega arith) below)
      (hold_within q (inflow q) f flow.within (suc t) s (omega arith) (omega arith) below) income

  -- what a flow keeps is at most what the plan leaves
  keep_left : (t s : ℕ) → t ≤ length q.windows → s < length q.rows → carried q f t s ≤ left q x s t
  keep_left zero s within below = omega arith
  keep_left (suc t) s within below =
      let kept = step_kept t s (omega arith) below (keep_left t s (omega arith) below) in
      let is_left = left_step q x s t (suc t) (add-one t)
      ∙ ap (left_by q.come (size q s (suc t)) (there q x s (suc t))) (taken s (suc t) below (omega arith) within) in
      rw is_left kept.keeps

  -- over the first steps, what a store lost and what came to it
  lost_and_come : (t s : ℕ) → t ≤ length q.windows → s < length q.rows → sum_by (lost q x s) (range_with_len 1 t) + sum_by (λ u. come q f u s) (range_with_len 1 t) + left q x s t ≤ sum_by (λ u. inflow q u s) (range_with_len 1 t) + carried q f t s + opening_at q t s
  lost_and_come zero s within below = omega (arith, left_start q x s)
  lost_and_come (suc t) s within below =
      let kept = step_kept t s (omega arith) below (keep_left t s (omega arith) below) in
      omega (
        arith,
        lost_and_come t s (omega arith) below,
        sum_by_steps-suc (lost q x s) t,
        sum_by_steps-suc (λ u. come q f u s) t,
        sum_by_steps-suc (λ u. inflow q u s) t,
        left_before s t,
        inflow_is q t s,
        step_balance q x s t (suc t) (add-one t),
        kept.leaves,
        kept.all,
        taken s (suc t) below (omega arith) within,
      )

  -- after a step nothing opens
  no_opening : (t s : ℕ) → 1 ≤ t → opening_at q t s ≡ 0
  no_opening zero s some = absurd (omega arith)
  no_opening (suc t) s some = refl

  -- what a store loses and what came to it
  store_lost : (s : ℕ) → s < length q.rows → store_loss q x s + sum_by (λ u. come q f u s) (steps q) ≤ sum_by (λ u. inflow q u s) (steps q)
  store_lost s below =
      omega (arith, lost_and_come (length q.windows) s (omega arith) below, keep_left (length q.windows) s (omega arith) below, no_opening (length q.windows) s is.steps.has_step)

  -- what the first stores lose and what came to them
  pub first_loss_within : (n : ℕ) → n ≤ length q.rows → first_loss n q x + grid (come q f) (length q.windows) n ≤ grid (inflow q) (length q.windows) n
  first_loss_within n few =
      omega (
        arith,
        sum_by-swap (come q f) (steps q) (range_with_len 0 n),
        sum_by-swap (inflow q) (steps q) (range_with_len 0 n),
        sum_by-add (store_loss q x) (λ s. sum_by (λ u. come q f u s) (steps q)) (range_with_len 0 n),
        sum_by_range-le (λ s. store_loss q x s + sum_by (λ u. come q f u s) (steps q)) (λ s. sum_by (λ u. inflow q u s) (steps q)) 0 n (λ s _ below. store_lost s (omega (arith, few))),
      )

  -- what the plan loses and the flow's value are at most what comes
  pub loss_within : loss q x + value ≤ grid (inflow q) (length q.windows) (length q.rows)
  loss_within = omega (arith, come_is_value q (inflow q) is f value flow, first_loss_within (length q.rows) (omega arith))

  -- what is to leave in a step leaves in the flow
  leaves_all : (t : ℕ) → 1 ≤ t → t ≤ length q.windows → sum_by (in_step x t) (stores q) ≡ sum_by (leave q f t) (stores q)
  leaves_all t first last = sum_by_range_same (in_step x t) (leave q f t) 0 (length q.rows) (λ s _ below. taken s t (omega arith) first last)

  -- each store is of a channel
  each_in_channel : (t : ℕ) → All (λ s. 0 < leave q f t s → channel q s < length q.limits) (stores q)
  each_in_channel t = All-range_with_len (λ s. 0 < leave q f t s → channel q s < length q.limits) 0 (length q.rows) (λ s _ below some. omega (arith, channel_within q is s (omega arith), is.channels.all))

  -- the amounts fit the window
  windowed : (t : ℕ) → 1 ≤ t → t ≤ length q.windows → sum_by (in_step x t) (stores q) ≤ window q t
  windowed t first last =
      let groups = sum_by-le_groups (leave q f t) (channel q) (length q.limits) (stores q) (each_in_channel t) in
      let by_channel = sum_by_range_same (λ c. sum_by (λ s. cond (eqb (channel q s) c) (leave q f t s) 0) (stores q)) (pass_on q f t) 0 (length q.limits) (λ c _ below. channel_conserved q (inflow q) is f value flow t c first last (omega arith)) in
      omega (arith, leaves_all t first last, groups, by_channel, pass_conserved q (inflow q) is f value flow t first last, send_within q (inflow q) f flow.within t first last)

  -- and the limits of the channels
  limited : (t c : ℕ) → 1 ≤ t → t ≤ length q.windows → FitsLimit q x t c
  limited t c first last most is_limit =
      let below = limit_is_within q c t most is_limit in
      let leaves_channel = sum_by_range_same (λ s. cond (is_of q c s) (in_step x t s) 0) (λ s. cond (eqb (channel q s) c) (leave q f t s) 0) 0 (length q.rows) (λ s _ within. ap (λ n. cond (eqb (channel q s) c) n 0) (taken s t (omega arith) first last)) in
      omega (arith, sum_by-filter (in_step x t) (is_of q c) (stores q), leaves_channel, channel_conserved q (inflow q) is f value flow t c first last below, pass_on_within q (inflow q) f flow.within t c most first last below is_limit)

  -- the plan fits
  pub fits : Fits q x
  fits t first last = record { windowed = windowed t first (omega arith); limited = λ c. limited t c first (omega arith) }
