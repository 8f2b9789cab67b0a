use Rattle.mm_service.proofs.Words.{◌≡◌, ◌+◌, ◌≤◌, length, All, fold, HasCount, queue_of, with_report}
use Rattle.std.specs.VecDeque.{deque_len, deque_capacity}
use Rattle.std.specs.Vec.Iter.{into_iter_items, into_iter_len}
use Rattle.mm_service.proofs.applying.wait_for_all.Given as goal

abbrev pub invariant-loop-report : goal.invariant-loop-report
invariant-loop-report l = record {
  can : goal.iterator-loop-report.can_next l.report-iterator;
  finite : goal.iterator-loop-report.is_finite l.report-iterator;
  counted : into_iter_len l.report-iterator ≡ length (into_iter_items l.report-iterator);
  after : fold (with_report l.asked) (queue_of l.counters l.waiting.items) (into_iter_items l.report-iterator)
      ≡ fold (with_report l.asked) (queue_of l.initial.counters l.initial.waiting.items) l.fn.reports.items;
  counts : All HasCount (into_iter_items l.report-iterator);
  room : deque_len l.waiting + length (into_iter_items l.report-iterator) ≤ deque_capacity l.waiting;
}
