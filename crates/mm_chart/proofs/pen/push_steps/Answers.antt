use Rattle.std.proofs.Common.{◌≡◌, ◌+◌, ◌-◌, arith}
use Rattle.mm_chart.specs.Layout.{edge}
use Rattle.mm_chart.proofs.Numbers.{outlined_more}
use Rattle.mm_chart.proofs.pen.push_steps.Goals as goal

pub loop-step-preserved : goal.loop-step-preserved
loop-step-preserved c =
    let p = c.args.column.now.picture.now in
    let t = c.loop-step.step in
    let same : t + 1 - 1 ≡ t = omega arith in
    let width = rw c.problem-problem.ensures at c.step_width-width.ensures.width in
    let left : c.edge_at.result ≡ edge p.problem (t - 1) = rw width at c.edge_at.ensures.edge in
    let right : c.edge_at-in-loop-step.result ≡ edge p.problem t = rw width at c.edge_at-in-loop-step.ensures.edge in
    record {
      text = outlined_more p c.args.column.now.series c.args.whole t _ _ _ _ _ _ c.loop-step.auto.step
          (rw c.problem-problem.ensures at c.base_of-base.ensures.base) c.loop-step.invariant.before
          c.height_of-here.ensures.height c.loop-step.invariant.text (rw (left, right) at c.in_ok-push_bar.ensures);
      before = rw same c.height_of-here.ensures.height;
    }
