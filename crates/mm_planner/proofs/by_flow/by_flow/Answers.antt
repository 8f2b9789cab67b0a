use Rattle.std.proofs.Common.{ℕ, refl, slice_index, subst, arith}
use Rattle.mm_plan.specs.Table.{amount}
use Rattle.mm_planner.specs.Opening.{IsOpened}
use Rattle.mm_planner.proofs.FromFlow.{fits}
use Rattle.mm_planner.proofs.Opening.{all_solved, all_show}
use Rattle.mm_planner.proofs.by_flow.by_flow.Goals as goal

pub opened_to-requires-clause-begun : goal.opened_to-requires-clause-begun
opened_to-requires-clause-begun c = record {
  stores = c.args.firsts;
  few = omega (arith, c.requires, c.stores.ensures.stores);
  begun = c.in_ok-begun.ensures.opened.begun;
}

pub taken_plan-requires : goal.taken_plan-requires
taken_plan-requires c =
    all_solved c.args.problem.now c.stores.result c.stores.ensures.stores
    c.in_ok-solved.ensures.opened.continued.solved

pub fill-requires-clause-fits : goal.fill-requires-clause-fits
fill-requires-clause-fits c =
    let q = c.args.problem.now in
    let s = c.in_ok-solved.solved in
    let solved = all_solved q c.stores.result c.stores.ensures.stores c.in_ok-solved.ensures.opened.continued.solved in
    fits q c.opened_to.ensures.problem (slice_index s.flow.items) s.value solved.solution.flow
    (amount c.in_ok-taken.taken) c.in_ok-taken.ensures.taken

pub unreachable-requires : goal.unreachable-requires
unreachable-requires c =
    let q = c.args.problem.now in
    let s = c.in_ok-solved.solved in
    let cut = c.in_ok-solved.cut in
    let first = c.in_ok-begun in
    let taken = c.in_ok-taken in
    let filled = c.in_ok-plan in
    let opened = subst (λ (k : ℕ). IsOpened k q first.begun s cut) c.stores.ensures.stores
    c.in_ok-solved.ensures.opened in
    let solved = all_solved q c.stores.result c.stores.ensures.stores c.in_ok-solved.ensures.opened.continued.solved in
    let none = rw c.in-None.is at c.in_ok-found.ensures.none in
    none (all_show q c.opened_to.ensures.problem (slice_index s.flow.items) s.value (amount taken.taken) filled.plan
    solved.solution.flow taken.ensures.taken filled.ensures.fits filled.ensures.no_worse.losses
    c.args.firsts first.begun s first.cuts.items cut c.requires first.ensures.opened opened refl)
