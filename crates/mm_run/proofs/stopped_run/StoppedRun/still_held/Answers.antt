use Rattle.std.proofs.Common.{◌≡◌, ◌+◌, arith}
use Rattle.mm_base.proofs.RangeSums.{sum_by_range_more}
use Rattle.mm_run.specs.StoppedRun.{dumped_at}
use Rattle.mm_run.proofs.stopped_run.StoppedRun.still_held.Goals as goal

pub loop-place-preserved : goal.loop-place-preserved
loop-place-preserved c =
    let place = c.loop-place.place in
    let at : 0 + place ≡ place = omega arith in
    let more = sum_by_range_more (λ place. dumped_at place c.args.self.now) 0 place place at in
    omega (arith, more, c.loop-place.invariant, c.saturating_sub-held-in-loop-place.ensures, c.dumped.ensures.dumped)
