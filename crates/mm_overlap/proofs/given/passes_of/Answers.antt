use Rattle.std.proofs.Common.{◌≡◌, ℕ, ◌<◌, arith}
use Rattle.mm_overlap.proofs.Passes.{one_more, no_more}
use Rattle.mm_overlap.proofs.given.passes_of.Goals as goal
use Rattle.mm_overlap.proofs.given.passes_of.Goals.{then-number-transmitter+in_ok-push, else-number-transmitter}

pub loop-i-preserved : goal.loop-i-preserved
loop-i-preserved c =
    let passes = c.args.passes.now in
    let numbers = c.args.numbers.now in
    let k = c.args.transmitter in
    let i = c.loop-i.i in
    let own = c.loop-i.own.items in
    elim c.if-number-transmitter.branch [
      | then-number-transmitter+in_ok-push w ↦ rw w.own-is (one_more passes numbers k i own w.push.new.self.items _
          w.in_ok-push.ensures.items c.loop-i.invariant (omega (arith, c.requires)) w.if-number-transmitter.true)
      | else-number-transmitter w ↦ rw w.own-is (no_more passes numbers k i own c.loop-i.invariant
          w.if-number-transmitter.false)
    ]
