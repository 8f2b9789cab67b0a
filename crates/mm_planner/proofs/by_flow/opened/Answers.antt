use Rattle.std.proofs.Common.{arith}
use Rattle.mm_planner.proofs.Opening.{opened_more}
use Rattle.mm_planner.proofs.by_flow.opened.Goals as goal

pub loop-store-init : goal.loop-store-init
loop-store-init c = record {
  begun = c.in_ok-solved.ensures.begun;
  count = cc;
  each = λ j d below. absurd (omega arith);
}

pub opened_to-requires-clause-begun : goal.opened_to-requires-clause-begun
opened_to-requires-clause-begun c = record
    { stores = c.loop-store.store; few = omega arith; begun = c.loop-store.invariant.begun }

pub loop-store-preserved : goal.loop-store-preserved
loop-store-preserved c =
    opened_more c.loop-store.store c.args.problem.now c.loop-store.solved c.in_ok-next.next c.loop-store.cuts.items
    c.push.new.self.items c.in_ok-next.cut
    (omega arith) c.loop-store.invariant c.in_ok-next.ensures.opened c.in_ok-push.ensures.items
