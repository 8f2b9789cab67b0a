use Rattle.std.proofs.Common.{◌≡◌, ◌∙◌, refl, ap}
use Rattle.mm_carry.proofs.Words.{labels_of, Holdings, held_as, supplies, run_input, Reported}
use Rattle.mm_carry.proofs.Beyond.{isolated, loses_at_most}
use Rattle.mm_carry.proofs.Ended.{total_is, stopped_far}
use Rattle.mm_exec.proofs.carrying.carry_out.Given as given
use Rattle.mm_exec.proofs.carrying.carry_out.Goals as goal
use Rattle.mm_exec.proofs.carrying.carry_out.Goals.{After-restore}

-- the run had the routes of the memory
routes_are : (g : given.Over) (c : goal.After-restore g) → c.control.result.now ≡ c.args.memory.now.routes
routes_are g c = c.control.ensures.rows ∙ ap (λ (h : Holdings). h.routes) c.lift.ensures.left

pub restore-requires-clause-are_held : goal.restore-requires-clause-are_held
restore-requires-clause-are_held g c =
    held_as c.carry_plan-ended.new.self.stores.items c.args.memory.now.stores
    (c.carry_plan-ended.ensures.labels ∙ ap labels_of c.lift.ensures.stores) c.lift.ensures.are_held

pub returns-in-Ok-clause-carried_out : goal.returns-in-Ok-clause-carried_out
returns-in-Ok-clause-carried_out g c =
    let routes = routes_are g (goal.at.returns-in-Ok-clause-carried_out g c).After-restore in
    let input = run_input c.args.problem.now c.args.plan.now c.args.base c.args.memory.now in
    let done = rw (c.lift.ensures.stores, routes) at c.in-Ok.ensures.done in
    rw (c.restore.ensures.after, c.lift.ensures.left) (λ lasts lead.
    let ran = done lasts lead in
    let m = input (supplies g.S.AnySource.until c.args.sources.items lasts) in
    let total = total_is m c.carry_plan-ended.new.self.report ran.1.done.report_is in
    let rows = ap (λ (r : Reported). r.steps) ran.1.done.report_is in (
      ran.0,
      record {
        routes = refl;
        ran = ran.1;
        total_lost = total;
        at_most = loses_at_most m _ _ refl total;
        isolated = isolated m _ _ ran.1.done.losses rows;
      },
    ))

pub returns-in-Err-clause-halted : goal.returns-in-Err-clause-halted
returns-in-Err-clause-halted g c =
    let routes = routes_are g (goal.at.returns-in-Err-clause-halted g c).After-restore in
    let stopped = rw (c.lift.ensures.stores, routes) at c.in-Err.ensures.stopped in
    rw (c.restore.ensures.after, c.lift.ensures.left) (λ lasts lead. let ended = stopped lasts lead in
    (ended.0, (refl, ended.1)))

pub returns-in-Err-clause-far : goal.returns-in-Err-clause-far
returns-in-Err-clause-far g c =
    let stopped = rw c.lift.ensures.stores at c.in-Err.ensures.stopped in
    λ lasts lead. let ended = stopped lasts lead in
    (ended.0, stopped_far g.L.Link.sent g.L.Link.failed _ _ _ _ _ _ _ ended.1)
