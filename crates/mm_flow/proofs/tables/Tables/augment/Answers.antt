use Rattle.std.proofs.Common.{◌+◌, arith}
use Rattle.mm_flow.proofs.Working.{value_small, flow_small, work_more}
use Rattle.mm_flow.proofs.tables.Tables.augment.Goals as goal

pub push_along-requires-clause-small : goal.push_along-requires-clause-small
push_along-requires-clause-small c = flow_small c.args.self.now.at_work

pub overflow_add-self : goal.overflow_add-self
overflow_add-self c = omega (arith, c.bottleneck-amount.ensures.within, value_small c.args.self.now.at_work)

pub returns-clause-more : goal.returns-clause-more
returns-clause-more c = omega (arith, c.bottleneck-amount.ensures.greatest 1 (omega arith) c.requires.way)

pub invariant_of-self : goal.invariant_of-self
invariant_of-self c =
    let t = c.args.self.now in
    let more = t.value + c.bottleneck-amount.result in
    let augmented = c.push_along.ensures.augmented t.value t.at_work.augmented in
    rw c.push_along.ensures.network
    (record { at_work = work_more t.at_work c.push_along.new.self.flow.items more augmented })
