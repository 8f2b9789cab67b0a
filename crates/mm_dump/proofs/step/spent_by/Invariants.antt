use Rattle.mm_dump.proofs.Words.{◌≡◌, ◌*◌, ◌^◌, ◌≤◌, take, sum_by, DumpWorker}
use Rattle.mm_dump.proofs.step.spent_by.Given as goal

abbrev pub invariant-loop-worker : goal.invariant-loop-worker
invariant-loop-worker l = record {
  sum : l.spent ≡ sum_by (λ (w : DumpWorker). w.spent) (take l.worker-index l.workers);
  bound : l.spent ≤ l.worker-index * 2 ^ 48;
}
