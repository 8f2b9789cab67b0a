use Rattle.mm_dump.proofs.Words.{◌≡◌, ◌+◌, ◌≤◌, [], All, vec_len, vec_capacity, view, IsPassOf, IsHired}
use Rattle.mm_dump.proofs.buffers.hire.Given as goal

abbrev pub invariant-loop : goal.invariant-loop
invariant-loop g l = record {
  of : IsPassOf l.queue l.pass;
  parts : (view l.pass).parts + l.counter ≡ 1024;
  few : (view l.pass).pushed ≤ 65536;
  none : (view l.pass).taken ≡ [];
  many : vec_len l.workers ≡ l.counter;
  room : vec_capacity l.workers ≡ vec_capacity l.initial.workers;
  hired : All (IsHired l.queue) l.workers.items;
}
