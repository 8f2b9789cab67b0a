use Rattle.std.proofs.Common.{arith, ℕ}
use Rattle.std.proofs.lemmas.Bool.{cond-true, cond-false}
use Rattle.mm_base.proofs.RangeSums.{sum_by_filter_range_more}
use Rattle.mm_links.specs.Rooms.{limit_of, is_in}
use Rattle.mm_links.proofs.widest.set_limit.Goals as goal
use Rattle.mm_links.proofs.widest.set_limit.Goals.{then-set-channel, else-set-channel}

pub loop-channel-preserved : goal.loop-channel-preserved
loop-channel-preserved c =
    let n = c.loop-channel.channel in
    let set = is_in c.args.set.now in
    let more = sum_by_filter_range_more set (limit_of c.args.links.now) 0 n n (omega arith) in
    elim c.if-set-channel.branch [
      | then-set-channel w ↦
          let own = cond-true {A = ℕ} (set n) (limit_of c.args.links.now n) 0 w.if-set-channel.true in
          record { sum = omega (arith, more, own); small = omega arith }
      | else-set-channel w ↦
          let none = cond-false {A = ℕ} (set n) (limit_of c.args.links.now n) 0 w.if-set-channel.false in
          record { sum = omega (arith, more, none); small = omega arith }
    ]
