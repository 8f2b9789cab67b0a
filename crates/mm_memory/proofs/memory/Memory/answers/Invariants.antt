use Rattle.mm_memory.proofs.Words.{◌≡◌, ◌≤◌, length, take, vec_capacity, AppliesEach}
use Rattle.mm_memory.proofs.memory.Memory.answers.Given as goal

abbrev pub invariant-loop-instruction : goal.invariant-loop-instruction
invariant-loop-instruction l = record {
  applied : AppliesEach (take l.instruction-index l.instructions) l.initial.self l.each.items l.self;
  count : length l.each.items ≡ l.instruction-index;
  room : length l.instructions ≤ vec_capacity l.each;
}
