use Rattle.std.proofs.Common.{◌≡◌, ◌-◌, take}
use Rattle.std.specs.Prelude.{sum_by}
use Rattle.mm_run.specs.StoppedRun.{dumped_in}
use Rattle.mm_run.proofs.stopped_run.StoppedRun.dumped.Given as goal

abbrev pub invariant-loop-step : goal.invariant-loop-step
invariant-loop-step l = l.dumped ≡ l.initial.dumped
    - sum_by (dumped_in l.place) (take l.step l.self.halted.report.steps)
