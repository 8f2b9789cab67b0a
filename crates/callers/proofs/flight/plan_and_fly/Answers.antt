-- What `fly` ensures, over the memory of the setup.
use Rattle.std.proofs.Common.{◌≡◌, ◌∙◌, ◌==◌, List, [], map, ap, inl, inr, refl}
use Rattle.std.specs.Prelude.{if◌then◌else◌}
use Rattle.mm_memory.specs.Holdings.{memory_of}
use Rattle.mm_record.specs.Supplies.{Supply}
use Rattle.mm_record.proofs.Supplying.{as_known}
use Rattle.mm_report.specs.declared.counts.Totals.{Totals}
use Rattle.mm_exec.specs.Flying.{Flies, FliesNot}
use Rattle.callers.specs.declared.ends.Burst.{Burst}
use Rattle.callers.specs.declared.ends.Downlink.{Downlink}
use Rattle.callers.specs.Again.{sent_over}
use Rattle.callers.proofs.flight.plan_and_fly.Given as given
use Rattle.callers.proofs.flight.plan_and_fly.Goals as goal
use Rattle.callers.proofs.flight.plan_and_fly.Goals.{In-Ok-fly}

-- what a burst gives in each step
abbrev gives : Burst → Supply
gives burst step = if step == burst.step then burst.packets.items else []

-- the run, of bursts whose packets are known before
flown : (g : given.Over) (c : In-Ok-fly g)
    → Flies sent_over (λ (l : Downlink). l.failed) c.args.problem.now 0 c.in-Ok.memory (map gives c.args.sources.items) c.args.links.items c.fly.new.memory c.in-Ok-fly.flown
    (map gives c.in-Ok-fly.flown.sources.items)
flown g c =
    as_known gives c.args.sources.items c.in-Ok-fly.flown.sources.items
    (λ given left. Flies sent_over (λ (l : Downlink). l.failed) c.args.problem.now 0 c.in-Ok.memory given c.args.links.items c.fly.new.memory c.in-Ok-fly.flown left) c.in-Ok-fly.ensures.flown

pub returns-in-Ok-fly-clause-lost : goal.returns-in-Ok-fly-clause-lost
returns-in-Ok-fly-clause-lost g c =
    let made : c.in-Ok.memory ≡ memory_of c.args.setup.now = c.in-Ok.ensures.memory in
    let f = flown g (goal.at.returns-in-Ok-fly-clause-lost g c).In-Ok-fly in
    (f.sheet, f.plans, λ met. ap (λ (t : Totals). t.lost) c.totals.ensures.totals ∙ f.headline.lost (rw made met))

pub returns-in-Ok-fly-clause-flown : goal.returns-in-Ok-fly-clause-flown
returns-in-Ok-fly-clause-flown g c =
    let made : c.in-Ok.memory ≡ memory_of c.args.setup.now = c.in-Ok.ensures.memory in
    (c.fly.new.memory, rw (← made) (flown g (goal.at.returns-in-Ok-fly-clause-flown g c).In-Ok-fly))

pub returns-clause-halted : goal.returns-clause-halted
returns-clause-halted g c =
    let made : c.in-Ok.memory ≡ memory_of c.args.setup.now = c.in-Ok.ensures.memory in
    let ended = c.in-Err.field-0 in
    let Not = λ (given left : List Supply). FliesNot sent_over (λ (l : Downlink). l.failed) c.args.problem.now 0 c.in-Ok.memory c.args.sources.items given c.args.links.items c.fly.new.memory ended left in
    elim c.in-Err.ensures.not_flown [
      | inl flies_not ↦ inr (c.fly.new.memory, ended, rw (← made) (as_known gives c.args.sources.items ended.halted.sources.items Not flies_not), refl)
      | inr no_plan ↦ inl no_plan.cause_is
    ]
