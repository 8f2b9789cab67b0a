use Rattle.mm_carry.proofs.Words.{stores_in, AreCounters, ◌≡◌, length}
use Rattle.mm_carry.proofs.step_counts.all_counters.Given as goal

abbrev pub invariant-loop-store : goal.invariant-loop-store
invariant-loop-store l = record {
  same : l.stores ≡ l.initial.stores;
  many : length l.counters ≡ 16;
  are : AreCounters (stores_in l.initial.stores) l.places l.store l.counters;
}
