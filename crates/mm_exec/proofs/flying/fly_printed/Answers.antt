use Rattle.std.proofs.Common.{◌∙◌, refl}
use Rattle.mm_exec.proofs.Headline.{firsts_at_most_of, firsts_of, headline_of}
use Rattle.mm_exec.proofs.flying.fly_printed.Goals as goal

pub returns-in-Ok-clause-flown : goal.returns-in-Ok-clause-flown
returns-in-Ok-clause-flown g c = rw c.with_sheet.ensures (λ aim p lasts lead.
    let carried = rw (c.plan-plan.ensures ∙ p.plan_is) at c.in-Ok.ensures.carried_out in
    let done = carried lasts lead in (
      done.0,
      record {
        sheet = p.sheet;
        plans = p.plans;
        shows = p.besides;
        carried_out = done.1;
        headline = headline_of _ _ p.sheet c.in-Ok.ended.report refl p.plans done.1.total_lost;
        firsts = firsts_of aim p.sheet refl p.besides done.1;
        firsts_at_most = firsts_at_most_of aim p.sheet refl p.besides done.1;
      },
    ))

pub returns-clause-not_flown : goal.returns-clause-not_flown
returns-clause-not_flown g c = λ aim p lasts lead.
    let halted = rw (c.plan-plan.ensures ∙ p.plan_is) at c.in-Err.ensures.halted in
    let one = halted lasts lead in (
      one.0,
      record { sheet = p.sheet; plans = p.plans; shows = p.besides; halted = one.1 },
    )
