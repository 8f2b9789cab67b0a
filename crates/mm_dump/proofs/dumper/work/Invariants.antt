use Rattle.mm_dump.proofs.Words.{◌≡◌, ◌*◌, ◌^◌, ◌≤◌, List, length, None, view, IsPassOf, ids_of, Course, progress}
use Rattle.mm_dump.proofs.Words.{Worked}
use Rattle.mm_dump.proofs.dumper.work.Given as goal

abbrev pub invariant-loop : goal.invariant-loop
invariant-loop g l = record {
  can_next : (goal.iterator-loop g).can_next l.iterator';
  is_finite : (goal.iterator-loop g).is_finite l.iterator';
  pass : IsPassOf l.context.queue.now l.worker.pass;
  part : (view l.worker.pass).parts ≡ 1;
  pushed : (view l.worker.pass).pushed ≡ (view l.initial.worker.pass).pushed;
  spent : l.worker.spent ≤ length (view l.worker.pass).taken * 2 ^ 32;
  well : g.L.Link.failed l.link ≡ g.L.Link.failed l.initial.link;
  worked : (courses : List Course) × Worked (ids_of l.context.labels.now) l.context.orders.now
      (view l.worker.pass).taken 0 None
      (progress g.L.Link.sent g.L.Link.failed l.initial.port l.initial.link 0)
      (progress g.L.Link.sent g.L.Link.failed l.port l.link l.worker.spent) courses;
}
