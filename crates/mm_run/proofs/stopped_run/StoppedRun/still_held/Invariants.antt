use Rattle.std.proofs.Common.{◌≡◌, ◌-◌, take}
use Rattle.std.specs.Prelude.{sum_by}
use Rattle.std.specs.List.{range_with_len}
use Rattle.mm_run.specs.StoppedRun.{dumped_at}
use Rattle.mm_run.proofs.stopped_run.StoppedRun.still_held.Given as goal

abbrev pub invariant-loop-link : goal.invariant-loop-link
invariant-loop-link l = l.held ≡ l.self.halted.spent
    - sum_by (λ link. link.failed) (take l.link-index l.self.halted.links.items)

abbrev pub invariant-loop-place : goal.invariant-loop-place
invariant-loop-place l = l.held ≡ l.initial.held
    - sum_by (λ place. dumped_at place l.self) (range_with_len 0 l.place)
