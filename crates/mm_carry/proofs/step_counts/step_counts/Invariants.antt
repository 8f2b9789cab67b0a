use Rattle.mm_carry.proofs.Words.{AreStepCounts, ◌≡◌, length}
use Rattle.mm_carry.proofs.step_counts.step_counts.Given as goal

abbrev pub invariant-loop-store : goal.invariant-loop-store
invariant-loop-store l = record {
  many : length l.counts ≡ 16;
  are : AreStepCounts l.problem l.step l.before l.after l.store l.counts;
}
