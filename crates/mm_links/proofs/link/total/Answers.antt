use Rattle.std.proofs.Common.{arith}
use Rattle.mm_base.proofs.RangeSums.{sum_by_range_more}
use Rattle.mm_links.specs.Shared.{amount}
use Rattle.mm_links.proofs.link.total.Goals as goal

pub loop-channel-preserved : goal.loop-channel-preserved
loop-channel-preserved c =
    let n = c.loop-channel.channel in
    let more = sum_by_range_more (amount c.args.amounts.now) 0 n n (omega arith) in
    record { sum = omega (arith, more); small = omega arith }
