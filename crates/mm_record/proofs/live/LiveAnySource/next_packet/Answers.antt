use Rattle.mm_record.proofs.Words.{Option, Some, None, arith}
use Rattle.std.specs.Prelude.{IfNone}
use Rattle.mm_record.proofs.Lives.{live_gave, follows_back}
use Rattle.mm_record.proofs.live.LiveAnySource.next_packet.Goals as goal

pub returns-then-is_none-clause-gave : goal.returns-then-is_none-clause-gave
returns-then-is_none-clause-gave g c = λ last follows. live_gave c.args.step c.next-packet.result
    (g.L.LiveSource.gave c.args.self.now.source) (g.L.LiveSource.gave c.next-packet.new.self)
    (g.L.LiveSource.gave last.source) c.next-packet.ensures.gave c.next-packet.ensures.others _ last.from follows
    (if_none c.next-packet.result (follows.over c.args.step (omega (arith, c.from-then-is_none.ensures))))
  where
    if_none : {A : Type 0} {P : Type 0} (o : Option A) → P → IfNone o P
    if_none None holds = holds
    if_none (Some x) holds = tt

pub returns-else-is_none-clause-back : goal.returns-else-is_none-clause-back
returns-else-is_none-clause-back g c = λ last follows.
    follows_back c.args.step c.next-packet.result (g.L.LiveSource.gave c.args.self.now.source)
    (g.L.LiveSource.gave c.next-packet.new.self) (g.L.LiveSource.gave last.source)
    c.next-packet.ensures.gave c.next-packet.ensures.others c.args.self.now.from c.args.self.now.from last.from follows
    (omega arith) (omega (arith, c.if-from-self.false, c.from.ensures))
