use Rattle.mm_dump.proofs.Words.{◌≡◌, ◌+◌, ◌<◌, [], length, view, IsPassOf}
use Rattle.mm_dump.proofs.queue.push_all.Given as goal

abbrev pub invariant-loop-number : goal.invariant-loop-number
invariant-loop-number g l = record {
  pass : IsPassOf l.queue l.pass;
  all : (view l.pass).parts ≡ 1024;
  number : length (view l.pass).taken + l.number ≡ (view l.pass).pushed;
  none : 0 < l.number → (view l.pass).taken ≡ [];
}
