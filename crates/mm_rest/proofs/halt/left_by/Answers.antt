use Rattle.std.proofs.Common.{◌≡◌, ◌+◌, arith}
use Rattle.mm_base.proofs.RangeSums.{sum_by_range_more}
use Rattle.mm_rest.specs.Halts.{dumped_by}
use Rattle.mm_rest.proofs.halt.left_by.Goals as goal

pub loop-store-preserved : goal.loop-store-preserved
loop-store-preserved c =
    let store = c.loop-store.store in
    let at : 0 + store ≡ store = omega arith in
    let more = sum_by_range_more (dumped_by c.args.problem.now c.args.halted.now c.args.channel) 0 store store at in
    omega (arith, more, c.loop-store.invariant, c.left_of-left.ensures, c.dumped_by.ensures)
