use Rattle.mm_dump.proofs.Words.{◌≡◌, ◌<◌, ℕ, ◌+◌, All, length, vec_len, vec_capacity, sum_by, view, IsPassOf}
use Rattle.mm_dump.proofs.Words.{DumpWorker, IsBack}
use Rattle.mm_dump.proofs.buffers.join_passes.Given as goal

abbrev pub invariant-loop-worker : goal.invariant-loop-worker
invariant-loop-worker l = record {
  pass : IsPassOf l.queue l.pass;
  part : 0 < (view l.pass).parts;
  capacity : vec_capacity l.workers ≡ vec_capacity l.initial.workers;
  passes : All (IsBack l.queue) l.workers.items;
  parts : (view l.pass).parts + length l.workers.items ≡ (view l.initial.pass).parts + length l.initial.workers.items;
  taken : (weight : ℕ → ℕ) → sum_by weight (view l.pass).taken
      + sum_by (λ (w : DumpWorker). sum_by weight (view w.pass).taken) l.workers.items
      ≡ sum_by weight (view l.initial.pass).taken
      + sum_by (λ (w : DumpWorker). sum_by weight (view w.pass).taken) l.initial.workers.items;
}

abbrev pub decreases-loop-worker : goal.decreases-loop-worker
decreases-loop-worker l = vec_len l.workers
