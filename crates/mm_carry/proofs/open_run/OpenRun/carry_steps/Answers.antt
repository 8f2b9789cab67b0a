use Rattle.mm_carry.proofs.Words.{AllZip, all_stay, length-supplies, zip_long, Supply, supplies, given_to, RunState}
use Rattle.mm_carry.proofs.Words.{with_supplies, stores_in, ◌≡◌, ◌∙◌, ◌+◌, ◌-◌, ◌≤◌, List, length, take, refl, arith}
use Rattle.mm_carry.proofs.Parts.{as_many}
use Rattle.mm_carry.proofs.Placing.{places_cut, stand_cut}
use Rattle.mm_carry.proofs.Starting.{Underway, underway, may_report, all_ready, done_first, ran_on, halted_in}
use Rattle.mm_carry.proofs.open_run.OpenRun.carry_steps.Goals.{In-loop-step}
use Rattle.mm_carry.proofs.open_run.OpenRun.carry_steps.Given as given
use Rattle.mm_carry.proofs.open_run.OpenRun.carry_steps.Goals as goal

-- the run as it began and as it is before the step, with what its sources give until they are as these
abbrev first_in : (g : given.Over) (c : goal.In-loop-step g) → List g.row.S.Denot → RunState Supply g.row.L.Denot
first_in g c lasts = with_supplies c.args.self.now (supplies g.S.AnySource.until c.args.self.now.sources lasts)

abbrev now_in : (g : given.Over) (c : goal.In-loop-step g) → List g.row.S.Denot → RunState Supply g.row.L.Denot
now_in g c lasts = with_supplies c.loop-step.self (supplies g.S.AnySource.until c.loop-step.self.sources lasts)

-- what is known before the step
here : (g : given.Over) (c : goal.In-loop-step g) (lasts : List g.row.S.Denot) → AllZip g.S.AnySource.leads
    c.loop-step.self.sources lasts
    → Underway g.L.Link.sent g.L.Link.failed c.args.run.now (take c.stores.result c.args.all.now) c.loop-step.step
    (first_in g c lasts) (now_in g c lasts) c.loop-step.buffers.report
here g c lasts lead =
    let places = c.requires.places in
    underway g.L.Link.sent g.L.Link.failed c.args.run.now _ c.loop-step.step (first_in g c lasts) (now_in g c lasts)
    c.loop-step.buffers.report places.sound
    (places_cut _ c.args.self.now.stores c.args.all.now c.stores.result places c.stores.ensures.stores)
    c.requires.may.sound c.loop-step.auto.step
    (omega (arith, c.loop-step-test.true, c.steps-step-end.ensures.steps)) c.loop-step.invariant.labels
    (c.loop-step.invariant.ran lasts lead).1

pub loop-step-init : goal.loop-step-init
loop-step-init g c =
    let inside = c.self.inside in
    let begun : RunState g.row.S.Denot g.row.L.Denot =
    record { stores = stores_in inside.stores; sources = inside.sources.items; links = inside.links.items } in
    let until = g.S.AnySource.until in
    let run = c.args.run.now in
    let may = rw (← c.self.view_is) at c.requires.may in
    let places = rw (← c.self.view_is) at c.requires.places in
    let ready = all_ready run.problem.now begun.stores may.held (may.begins.ready (omega arith))
    (may.begins.known (omega arith)) may.sound in
    let stand = stand_cut _ begun.stores c.args.all.now c.stores.result places c.stores.ensures.stores begun.stores
    refl in
    rw (← c.self.view_is, c.all_counters-counters.ensures.same) (record {
      ran = λ lasts lead.
          let first = with_supplies begun (supplies until begun.sources lasts) in
          let many = length-supplies until begun.sources lasts (zip_long g.S.AnySource.leads _ _ lead) in (
            lead,
            record {
              began = rw many may.begins;
              done = done_first g.L.Link.sent g.L.Link.failed (given_to run first) first c.args.buffers.now.report refl
                  may.report;
              fit = λ t from_one last. absurd (omega (arith, from_one, last));
              ready = ready;
            },
          );
      labels = refl;
      counters = rw stand.all at c.all_counters-counters.ensures.counters;
      room = may.orders;
    })

pub report_step-ended-requires-clause-may : goal.report_step-ended-requires-clause-may
report_step-ended-requires-clause-may g c κs within =
    let at = (goal.at.report_step-ended-requires-clause-may g c).In-loop-step in
    let begun = c.args.self.now in
    let now = c.loop-step.self in
    let until = g.S.AnySource.until in
    may_report g.L.Link.sent g.L.Link.failed c.args.run.now _ c.loop-step.step (first_in g at now.sources) now
    (supplies until now.sources now.sources) c.loop-step.counters c.loop-step.buffers
    (length-supplies until now.sources now.sources refl)
    (here g at now.sources (all_stay g.S.AnySource.leads until c.sources_may_stay.ensures.law now.sources))
    c.requires.may.held c.requires.may.links
    (stand_cut _ begun.stores c.args.all.now c.stores.result c.requires.places c.stores.ensures.stores now.stores
    (as_many now.stores begun.stores c.loop-step.invariant.labels))
    c.loop-step.invariant.counters c.loop-step.invariant.room

pub loop-step-preserved : goal.loop-step-preserved
loop-step-preserved g c =
    let at = (goal.at.loop-step-preserved g c).In-loop-step in
    record {
      ran = λ lasts lead.
          let stepped = c.in_default.ensures.step lasts lead in
          let before = here g at lasts stepped.0 in (
            (c.loop-step.invariant.ran lasts stepped.0).0,
            ran_on _ _ _ _ _ _ _ _ before c.events_keep_a_state.ensures.log
                c.broken_orders_change_nothing.ensures.law _ _ stepped.1,
          );
      labels = c.in_default.ensures.labels ∙ c.loop-step.invariant.labels;
      counters = c.in_default.ensures.counters;
      room = omega (arith, c.loop-step.invariant.room, c.in_default.ensures.capacity);
    }

pub returns-clause-ended : goal.returns-clause-ended
returns-clause-ended g c =
    let run = c.args.run.now in
    let over : c.steps-step-end.result + 1 ≤ c.loop-step.step = c.loop-step-test.false in
    let all : c.loop-step.step - 1 ≡ length run.problem.now.windows =
    omega (arith, over, c.steps-step-end.ensures.steps, c.loop-step.auto.step-end) in
    rw all at c.loop-step.invariant.ran

pub returns-in-Err-clause-ended : goal.returns-in-Err-clause-ended
returns-in-Err-clause-ended g c = λ lasts lead.
    let stepped = c.in-Err.ensures.step lasts lead in
    let before = here g (goal.at.returns-in-Err-clause-ended g c).In-loop-step lasts stepped.0 in (
      (c.loop-step.invariant.ran lasts stepped.0).0,
      (
        c.loop-step.step,
        halted_in _ _ _ _ _ _ _ _ before c.events_keep_a_state.ensures.log
            c.broken_orders_change_nothing.ensures.law c.requires.may.held _ _ _ stepped.1,
      ),
    )
