use Rattle.std.proofs.Common.{rules}
use Rattle.work_parts.proofs.Taking.{taken_here, others_same}
use Rattle.work_parts.proofs.bursts.BurstsSource.next.Goals as goal

pub returns-then-step-len-clause-gives : goal.returns-then-step-len-clause-gives
returns-then-step-len-clause-gives c =
    taken_here (λ q. q.items) c.args.self.now.bursts.items c.args.step c.index_mut.result.now c.pop_front.new.self c.pop_front.result
    (search rules) c.index_mut.ensures.value c.pop_front.ensures.items

pub returns-then-step-len-clause-others : goal.returns-then-step-len-clause-others
returns-then-step-len-clause-others c =
    others_same (λ q. q.items) c.args.self.now.bursts.items c.args.step c.index_mut.result.now c.pop_front.new.self
