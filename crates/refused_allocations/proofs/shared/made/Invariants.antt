use Rattle.std.proofs.Common.{◌≡◌}
use Rattle.refused_allocations.proofs.shared.made.Given as goal

abbrev pub invariant-loop-call : goal.invariant-loop-call
invariant-loop-call g l = record {
  first : (l.first.of.table ≡ l.stores.id) × (l.first.number ≡ 0);
  second : (l.second.of.table ≡ l.stores.id) × (l.second.number ≡ 1);
}
