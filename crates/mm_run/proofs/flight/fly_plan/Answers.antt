use Rattle.std.proofs.Common.{inl, inr, arith, IfOk, IfErr}
use Rattle.std.proofs.lemmas.Result.{IfOk-weaker, IfErr-weaker}
use Rattle.mm_record.proofs.Supplying.{as_known}
use Rattle.mm_exec.specs.Flying.{FliesFor, FliesNotFor}
use Rattle.mm_run.specs.Types.{Flown, FlyHalted, ScriptedSource, ScriptedLink}
use Rattle.mm_run.specs.Runs.{gives, sent, failed, IsFlown, IsNotFlown}
use Rattle.mm_run.proofs.Planned.{by_made, by_none}
use Rattle.mm_run.proofs.flight.fly_plan.Goals as goal

pub returns-in-Made-clause-flown : goal.returns-in-Made-clause-flown
unfolding IsFlown
returns-in-Made-clause-flown g c = λ aim. rw c.in-Made.is (by_made
    (λ sheet. IfOk c.fly_printed.result (IsFlown aim sheet c.args.problem.now c.args.memory.now c.args.sources.items
    c.args.links.items c.fly_printed.new.memory))
    aim c.args.problem.now c.in-Made.printed (λ printed. IfOk-weaker c.fly_printed.result _ _
    (λ (flown : Flown ScriptedSource ScriptedLink) comes. as_known gives c.args.sources.items flown.sources.items
    (λ given rest. FliesFor aim sent failed c.args.problem.now 0 c.args.memory.now given c.args.links.items
    c.fly_printed.new.memory flown rest) comes)
    (c.fly_printed.ensures.flown aim printed)))

pub returns-in-Made-clause-not_flown : goal.returns-in-Made-clause-not_flown
unfolding IsNotFlown
returns-in-Made-clause-not_flown g c = λ aim. rw c.in-Made.is (by_made
    (λ sheet. IfErr c.fly_printed.result
    (IsNotFlown aim sheet c.args.problem.now c.args.memory.now c.args.sources.items c.args.links.items
    c.fly_printed.new.memory))
    aim c.args.problem.now c.in-Made.printed (λ printed. IfErr-weaker c.fly_printed.result _ _
    (λ (ended : FlyHalted ScriptedSource ScriptedLink) comes. inl (as_known gives c.args.sources.items
    ended.halted.sources.items
    (λ given rest. FliesNotFor aim sent failed c.args.problem.now 0 c.args.memory.now c.args.sources.items given
    c.args.links.items c.fly_printed.new.memory ended rest) comes))
    (c.fly_printed.ensures.not_flown aim printed)))

pub returns-in-Unplanned-clause-not_flown : goal.returns-in-Unplanned-clause-not_flown
unfolding IsNotFlown
returns-in-Unplanned-clause-not_flown g c = λ aim. rw c.in-Unplanned.is (by_none
    (λ sheet. IsNotFlown aim sheet c.args.problem.now c.args.memory.now c.args.sources.items c.args.links.items
    c.args.memory.now c.unplanned.result)
    aim c.args.problem.now (inr (c.unplanned.ensures.no_plan c.args.memory.now)))

pub returns-in-Unplanned-clause-not_flown_text : goal.returns-in-Unplanned-clause-not_flown_text
returns-in-Unplanned-clause-not_flown_text g c =
    rw c.in-Unplanned.is (c.unplanned.ensures.no_plan c.args.memory.now).sheet_is

pub returns-in-Unplanned-clause-far : goal.returns-in-Unplanned-clause-far
returns-in-Unplanned-clause-far g c =
    let cause = (c.unplanned.ensures.no_plan c.args.memory.now).cause_is in
    rw c.unplanned.ensures.sources (λ lasts lead. (lead, λ few step refused. grind (arith, cause, refused)))
