use Rattle.std.proofs.Common.{inr, arith}
use Rattle.mm_exec.proofs.flying.fly_for.Goals as goal

pub returns-in-Err-clause-not_flown : goal.returns-in-Err-clause-not_flown
returns-in-Err-clause-not_flown g c = inr (c.unplanned.ensures.no_plan c.args.memory.now)

pub returns-in-Err-clause-far : goal.returns-in-Err-clause-far
returns-in-Err-clause-far g c =
    let cause = (c.unplanned.ensures.no_plan c.args.memory.now).cause_is in
    rw c.unplanned.ensures.sources (λ lasts lead. (lead, λ few step refused. grind (arith, cause, refused)))
