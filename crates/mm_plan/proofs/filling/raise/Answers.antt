use Rattle.std.proofs.Common.{◌≡◌, ◌+◌, ◌<◌, ◌∙◌, arith}
use Rattle.mm_base.specs.declared.limits.TheConstants.{CHANNELS}
use Rattle.mm_problem.specs.Dumping.{channel}
use Rattle.mm_plan.specs.Table.{amount}
use Rattle.mm_plan.proofs.Raises.{rest_raised, used_raised}
use Rattle.mm_plan.proofs.Lowering.{raised_by}
use Rattle.mm_plan.proofs.filling.raise.Goals as goal

pub returns-clause-rest : goal.returns-clause-rest
returns-clause-rest c =
    let own = c.channel-channel.ensures.channel in
    let is : c.amount.result + c.min-more.result ≡ amount c.args.plan.now c.args.store c.args.step + c.min-more.result = omega (arith, c.amount.ensures.amount) in
    let raised = raised_by c.args.problem.now c.args.plan.now c.set.new.self c.args.store c.args.step _ c.min-more.result c.requires.shape c.set.ensures.changed c.requires.store c.requires.first c.requires.last is in
    rest_raised c.args.problem.now (amount c.args.plan.now) (amount c.set.new.self) c.args.store c.args.step c.min-more.result _ _ _ _ c.requires.rest raised c.take.ensures.idle (rw own at c.take.ensures.here) (rw own at c.take.ensures.others)

pub returns-clause-used : goal.returns-clause-used
returns-clause-used c = λ stays.
    let own = c.channel-channel.ensures.channel in
    let below : channel c.args.problem.now c.args.store < CHANNELS = omega (arith, own, c.channel-channel.ensures.most) in
    let all : c.min-more.result ≡ c.room.result = omega (arith, stays) in
    used_raised c.args.problem.now (amount c.set.new.self) c.args.store c.args.step c.min-more.result _ _ _ _ below (returns-clause-rest c) c.take.ensures.idle (rw own at c.take.ensures.here) (rw own at (all ∙ c.room.ensures.room))
