use Rattle.std.proofs.Common.{◌≡◌, ◌∙◌, ap}
use Rattle.mm_carry.proofs.Words.{Holdings}
use Rattle.mm_exec.proofs.recording.record_step.Given as given
use Rattle.mm_exec.proofs.recording.record_step.Goals as goal
use Rattle.mm_exec.proofs.recording.record_step.Goals.{After-restore}

-- the step used the routes of the memory
routes_are : (g : given.Over) (c : goal.After-restore g) → c.control-control.result.now ≡ c.args.memory.now.routes
routes_are g c = c.control-control.ensures.rows ∙ ap (λ (h : Holdings). h.routes) c.lift-stores.ensures.left

pub returns-clause-refused : goal.returns-clause-refused
returns-clause-refused g c =
    let routes = routes_are g (goal.at.returns-clause-refused g c).After-restore in
    let refused = rw (c.lift-stores.ensures.stores, routes) at c.record_stores-done.ensures.refused in
    rw (c.restore.ensures.after, c.lift-stores.ensures.left) refused

pub returns-clause-err : goal.returns-clause-err
returns-clause-err g c =
    let routes = routes_are g (goal.at.returns-clause-err g c).After-restore in
    let err = rw (c.lift-stores.ensures.stores, routes) at c.record_stores-done.ensures.err in
    rw (c.restore.ensures.after, c.lift-stores.ensures.left) err
