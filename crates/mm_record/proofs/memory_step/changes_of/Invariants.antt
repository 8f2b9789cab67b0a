use Rattle.mm_record.proofs.Words.{◌≡◌, vec_capacity, AreRows}
use Rattle.mm_record.proofs.memory_step.changes_of.Given as goal

abbrev pub invariant-loop-index : goal.invariant-loop-index
invariant-loop-index l = record {
  rows : AreRows l.before.items l.stores l.index l.recorded.items;
  room : vec_capacity l.recorded ≡ vec_capacity l.initial.recorded;
}
