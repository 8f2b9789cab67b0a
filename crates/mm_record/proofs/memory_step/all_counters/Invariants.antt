use Rattle.mm_record.proofs.Words.{◌≡◌, map, take, All, IsState, counters_of}
use Rattle.mm_record.proofs.memory_step.all_counters.Given as goal

abbrev pub invariant-loop-held : goal.invariant-loop-held
invariant-loop-held l = record {
  counters : l.counters.items ≡ map (λ h. counters_of h.state) (take l.held-index l.stores);
  sound : All (λ h. IsState h.state) (take l.held-index l.stores);
}
