use Rattle.std.proofs.Common.{◌≡◌, arith}
use Rattle.mm_chart.specs.Series.{most_raised_by}
use Rattle.mm_chart.proofs.Ranges.{largest_first}
use Rattle.mm_chart.proofs.rows.most_saved.Goals as goal

pub loop-channel-preserved : goal.loop-channel-preserved
loop-channel-preserved c =
    let p = c.args.picture.now in
    let k = c.loop-channel.channel in
    let here : c.most.result ≡ most_raised_by p k =
    rw (c.new.ensures.picture, c.new.ensures.series) at c.most.ensures.largest in
    let more = largest_first (most_raised_by p) k in
    record {
      saved = omega (arith, here, more, c.max-most.ensures, c.loop-channel.invariant.saved);
      most = omega (arith, c.max-most.ensures, c.most.ensures.most, c.loop-channel.invariant.most);
    }
