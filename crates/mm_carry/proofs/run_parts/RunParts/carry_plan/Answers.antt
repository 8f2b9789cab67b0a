use Rattle.mm_carry.proofs.Words.{IsState, Held, stores_in, RunStart, run_start, Stops, MayBegin, state_of, ◌∙◌, length}
use Rattle.mm_carry.proofs.Words.{refl, inl, inr, All, arith, ap, subst}
use Rattle.mm_carry.proofs.Ended.{always_ok, start_by, not_begun, ended_as}
use Rattle.mm_carry.proofs.run_parts.RunParts.carry_plan.Goals.{After-ready}
use Rattle.mm_carry.proofs.run_parts.RunParts.carry_plan.Given as given
use Rattle.mm_carry.proofs.run_parts.RunParts.carry_plan.Goals as goal

-- what the tests say of what they read holds of the run
tested : (g : given.Over) (c : goal.After-ready g) (P : RunStart → Type 0) → let run = c.args.run.now in
    P (run_start run.problem.now run.plan.now c.as_slice-stores.result.now run.base c.len-many_sources.result
    c.len-many_links.result)
    → let parts = c.args.self.now in P (run_start run.problem.now run.plan.now parts.stores.items run.base
    (length parts.sources.items) (length parts.links.items))
tested g c P =
    let parts = c.args.self.now in
    start_by P _ _ _ c.as_slice-stores.ensures.value (omega (arith, c.len-many_sources.ensures, parts.sources.ok.0))
    (omega (arith, c.len-many_links.ensures, parts.links.ok.0))

pub returns-in-Err-clause-stopped : goal.returns-in-Err-clause-stopped
returns-in-Err-clause-stopped g c =
    not_begun _ _ g.L.Link.sent g.L.Link.failed c.args.run.now (state_of c.args.self.now)
    c.args.self.now.report c.never_began.result c.never_began.ensures c.requires.report
    (inl (tested g (goal.at.returns-in-Err-clause-stopped g c).After-ready (λ o. Stops o c.in-Err.cause)
    c.in-Err.ensures.err))

pub returns-in_default-open_all-clause-stopped : goal.returns-in_default-open_all-clause-stopped
returns-in_default-open_all-clause-stopped g c =
    let ended = c.never_began-in_default-open_all in
    rw c.in_default-open_all.ensures.err
    (not_begun _ _ g.L.Link.sent g.L.Link.failed c.args.run.now (state_of c.args.self.now)
    c.args.self.now.report ended.result ended.ensures c.requires.report
    (inr (
      refl,
      tested g (goal.at.returns-in_default-open_all-clause-stopped g c).After-ready MayBegin
          c.in_default.ensures.ok,
    )))

pub returns-in_default-reserve_run-clause-stopped : goal.returns-in_default-reserve_run-clause-stopped
returns-in_default-reserve_run-clause-stopped g c =
    let ended = c.never_began-in_default-reserve_run in
    not_begun _ _ g.L.Link.sent g.L.Link.failed c.args.run.now (state_of c.args.self.now)
    c.args.self.now.report ended.result ended.ensures c.requires.report
    (inr (
      refl,
      tested g (goal.at.returns-in_default-reserve_run-clause-stopped g c).After-ready MayBegin
          c.in_default.ensures.ok,
    ))

pub carry_steps-ended-requires-clause-may : goal.carry_steps-ended-requires-clause-may
carry_steps-ended-requires-clause-may g c κs within =
    let opened = c.in-Ok-open_all.ensures.opened.1 in
    rw (c.read_states.ensures.same, opened, c.replace.ensures.value, c.replace-2.ensures.value) (record {
      begins = tested g (goal.at.carry_steps-ended-requires-clause-may g c).After-ready MayBegin
          c.in_default.ensures.ok;
      held = c.requires.held;
      sound = subst (All (λ (h : Held). IsState h.state)) opened c.read_states.ensures.sound;
      links = c.requires.links;
      report = c.in-Ok.ensures.report;
      orders = c.in-Ok.ensures.orders;
    })

-- how the steps of the run ended, from the parts that it was given to those that it left
pub returns : goal.returns
returns g c =
    let opened = ap stores_in c.read_states.ensures.same ∙ c.in-Ok-open_all.ensures.opened.1 in
    let ended = rw (
      opened,
      c.replace.ensures.value,
      c.replace-2.ensures.value,
      ← c.open.view_is,
      ← c.close_all.ensures.stores,
    ) at c.carry_steps-ended.ensures.ended in
    let how = ended_as g.S.AnySource.leads g.S.AnySource.until g.L.Link.sent g.L.Link.failed c.args.run.now _ _ _
    c.carry_steps-ended.result ended in
    let may = tested g (goal.at.returns g c).After-ready MayBegin c.in_default.ensures.ok in
    record {
      done = how.0;
      stopped = how.1;
      labels = rw (opened, ← c.open.view_is, ← c.close_all.ensures.stores) at c.carry_steps-ended.ensures.labels;
      flyable = always_ok c.carry_steps-ended.result (may.flyable (omega arith));
      not_flyable = λ not. absurd (not (may.flyable (omega arith)));
    }
