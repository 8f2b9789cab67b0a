use Rattle.mm_carry.proofs.Words.{amount, stores_in, StepCounts, orders_of, ◌∙◌, ℕ, List, [], ◌∷◌, ◌++◌, take, ap}
use Rattle.mm_carry.proofs.Words.{arith}
use Rattle.mm_carry.proofs.Counters.{row_taken}
use Rattle.mm_carry.proofs.open_run.OpenRun.report_step.Goals as goal

pub returns-clause-step : goal.returns-clause-step
returns-clause-step g c =
    let run = c.args.run.now in
    let t = c.args.step in
    let places = c.args.places.now in
    let report = c.args.buffers.now.report in
    let may = c.requires.may in
    -- the stores before the step and after it
    let before = c.args.self.now.stores in
    let after = stores_in c.self.inside.stores in
    let listed = c.deref.ensures.value ∙ c.list_orders.ensures.orders
    ∙ ap (λ (m : ℕ). orders_of (amount run.plan.now) places t m) may.stand.all in
    let whole = rw (← c.self.view_is, c.from.ensures, listed) at c.in_ok-carry_step.ensures.step in
    let row = ap (λ (m : ℕ). take m c.step_counts-counts.result) may.stand.all
    ∙ row_taken run.problem.now t places before after _ _ _ may.counters_are
    (rw may.stand.all at c.all_counters-after.ensures.counters) c.step_counts-counts.ensures.counts
    (omega (arith, may.stand.all, may.stand.few, c.step_counts-counts.ensures.len)) in
    rw c.all_counters-after.ensures.same (λ lasts lead.
    let one = whole lasts lead in (
      one.0,
      record {
        step = one.1;
        within = tt;
        unreported = tt;
        row = c.add.ensures.added ∙ ap (λ (r : List StepCounts). record report { steps = report.steps ++ r ∷ [] }) row;
      },
    ))
