use Rattle.std.proofs.Common.{vec_capacity}
use Rattle.mm_carry.proofs.Words.{MAX_STORES, labels_of, given_to, AreCounters, HasRun, InRun, ◌≡◌, ◌-◌, ◌≤◌, length}
use Rattle.mm_carry.proofs.open_run.OpenRun.carry_steps.Given as goal

abbrev pub invariant-loop-step : goal.invariant-loop-step
invariant-loop-step g l = record {
  ran : InRun g.S.AnySource.leads g.S.AnySource.until l.fn.self l.self
      (λ first now. HasRun g.L.Link.sent g.L.Link.failed (given_to l.run first) l.run.plan.now first (l.step - 1) now
      l.buffers.report);
  labels : labels_of l.self.stores ≡ labels_of l.fn.self.stores;
  counters : AreCounters l.self.stores l.places (length l.run.problem.now.rows) l.counters;
  room : MAX_STORES ≤ vec_capacity l.buffers.orders;
}
