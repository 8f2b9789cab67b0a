use Rattle.std.proofs.Common.{◌≡◌, arith}
use Rattle.mm_chart.specs.Series.{most_lost_by}
use Rattle.mm_chart.proofs.Ranges.{largest_first}
use Rattle.mm_chart.proofs.rows.most_lost.Goals as goal

pub loop-store-preserved : goal.loop-store-preserved
loop-store-preserved c =
    let p = c.args.picture.now in
    let s = c.loop-store.store in
    let here : c.most.result ≡ most_lost_by p s =
    rw (c.new.ensures.picture, c.new.ensures.series) at c.most.ensures.largest in
    let more = largest_first (most_lost_by p) s in
    record {
      lost = omega (arith, here, more, c.max-most.ensures, c.loop-store.invariant.lost);
      most = omega (arith, c.max-most.ensures, c.most.ensures.most, c.loop-store.invariant.most);
    }
