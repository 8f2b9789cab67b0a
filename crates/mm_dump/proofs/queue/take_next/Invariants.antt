use Rattle.mm_dump.proofs.Words.{◌≡◌, ◌<◌, view, IsPassOf}
use Rattle.mm_dump.proofs.queue.take_next.Given as goal

abbrev pub invariant-loop : goal.invariant-loop
invariant-loop g l = record {
  can_next : (goal.iterator-loop g).can_next l.iterator';
  is_finite : (goal.iterator-loop g).is_finite l.iterator';
  pass : IsPassOf l.queue l.pass;
  part : 0 < (view l.pass).parts;
  same : view l.pass ≡ view l.initial.pass;
}
