use Rattle.std.proofs.Common.{◌≡◌, ℕ, ◌+◌, ◌*◌, ◌/◌, ◌%◌, length, arith}
use Rattle.mm_base.specs.Grid.{grid_place}
use Rattle.mm_base.specs.declared.limits.TheConstants.{CHANNELS}
use Rattle.mm_sensitivity.proofs.charts.step_limit_worths.Goals as goal

pub returns-clause-worths : goal.returns-clause-worths
returns-clause-worths c =
    let q = c.args.base.now.problem.now in
    let all : c.loop-place.place ≡ CHANNELS * length q.windows = omega
    (arith, c.loop-place-test.false, c.loop-place.auto.place-end, c.steps-steps.ensures.steps) in
    record {
      count = omega (arith, c.loop-place.invariant.count, all);
      each = λ d t inside first last.
          let place : ℕ = grid_place CHANNELS t d in
          let channel : place % CHANNELS ≡ d = omega (arith, inside, first) in
          let step : place / CHANNELS + 1 ≡ t = omega (arith, inside, first) in
          rw (channel, step) at (c.loop-place.invariant.each place (omega (arith, all, inside, first, last)));
    }
