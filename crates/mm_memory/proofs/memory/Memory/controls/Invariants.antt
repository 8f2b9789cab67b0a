use Rattle.mm_memory.proofs.Words.{◌≡◌, take, All, filter_map, HasCount, control_at}
use Rattle.mm_memory.proofs.memory.Memory.controls.Given as goal

abbrev pub invariant-loop-target : goal.invariant-loop-target
invariant-loop-target l = record {
  reports : l.all.items ≡ filter_map (control_at l.moment l.self) (take l.target-index l.targets);
  fit : All HasCount l.all.items;
}
