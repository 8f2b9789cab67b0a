use Rattle.std.proofs.Common.{◌≡◌, ◌-◌, ◌^◌, min, take}
use Rattle.std.specs.Prelude.{sum_by}
use Rattle.mm_run.proofs.run.lost_in.Given as goal

abbrev pub invariant-loop-held : goal.invariant-loop-held
invariant-loop-held l = l.lost ≡ min (sum_by (λ h. h.state.lost) (take l.held-index l.held-items)) (2 ^ 64 - 1)
