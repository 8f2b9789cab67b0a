use Rattle.std.proofs.Common.{◌≡◌, ◌+◌, ◌-◌, refl, sym, ap, ◌∙◌, arith}
use Rattle.mm_plan.specs.Table.{amount}
use Rattle.mm_plan.specs.Volumes.{Amounts, left, lost}
use Rattle.mm_plan.specs.Tabled.{volumes}
use Rattle.mm_plan.specs.declared.turn.StepVolumes.{StepVolumes}
use Rattle.mm_base.proofs.RangeSums.{sum_by_range_more}
use Rattle.mm_plan.proofs.Steps.{left_step, left_start, left_size, step_balance}
use Rattle.mm_plan.proofs.loss.loss_by.Goals as goal

pub loop-step-init : goal.loop-step-init
loop-step-init c = record {
  left = c.start-left.ensures.start ∙ sym (left_start _ _ _);
  held = c.start-left.ensures.most;
  lost = refl;
  most = omega arith;
}

pub loop-step-preserved : goal.loop-step-preserved
loop-step-preserved c =
    let here : c.loop-step.step + 1 - 1 ≡ c.loop-step.step = omega arith in
    let before : c.loop-step.step - 1 + 1 ≡ c.loop-step.step = omega arith in
    let from_one : 1 + (c.loop-step.step - 1) ≡ c.loop-step.step = omega arith in
    let x : Amounts = amount c.args.plan.now in
    let q = c.args.problem.now in
    let s = c.args.store in
    let t = c.loop-step.step in
    let kept = left_step q x s (t - 1) t before in
    let now : c.turn-volumes.result ≡ volumes q x s t = c.turn-volumes.ensures.volumes ∙ rw (
      kept,
      c.requires.come,
      c.size_by-size.ensures.size,
      c.loop-step.invariant.left,
      c.arrivals.ensures.arrivals,
      c.amount.ensures.amount,
    ) refl in
    let is_left : c.turn-volumes.result.left ≡ left q x s t = ap (λ (v : StepVolumes). v.left) now in
    let is_lost : c.turn-volumes.result.lost ≡ lost q x s t = ap (λ (v : StepVolumes). v.lost) now in
    let fits = left_size q x s (t - 1) t before in
    let balance = step_balance q x s (t - 1) t before in
    let more = rw before at (sum_by_range_more (lost c.args.problem.now x c.args.store) 1 (c.loop-step.step - 1) c.loop-step.step from_one) in
    record {
      left = rw here is_left;
      held = omega (arith, is_left, fits, c.size_by-size.ensures.most, c.size_by-size.ensures.size);
      lost = rw here (omega (arith, more, is_lost, c.loop-step.invariant.lost));
      most = omega (arith, is_lost, balance, c.loop-step.invariant.left, c.arrivals.ensures.arrivals);
    }
