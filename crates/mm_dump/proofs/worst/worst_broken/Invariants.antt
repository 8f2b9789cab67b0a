use Rattle.mm_dump.proofs.Words.{◌≡◌, None, take, worse, DumpWorker}
use Rattle.std.specs.Prelude.{fold}
use Rattle.mm_dump.proofs.worst.worst_broken.Given as goal

abbrev pub invariant-loop-worker : goal.invariant-loop-worker
invariant-loop-worker l =
    l.worst ≡ fold (λ worst (w : DumpWorker). worse worst w.why) None (take l.worker-index l.workers)
