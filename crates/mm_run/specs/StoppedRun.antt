-- What was sent in the step in which a run was halted.
use Rattle.std.specs.Prelude.{ℕ, ◌-◌, List, length, slice_get, sum_by}
use Rattle.std.specs.List.{range_with_len}
use Rattle.std.specs.Option.{option_map, unwrap_or}
use Rattle.mm_desk.specs.declared.held.Held.{Held}
use Rattle.mm_report.specs.declared.counts.StepCounts.{StepCounts}
use Rattle.mm_run.specs.declared.stopped_run.Volume.{Volume}
use Rattle.mm_run.specs.declared.stopped_run.StoppedRun.{StoppedRun}

-- how many packets of the store at a place were dumped in a step, as the step's counts say
abbrev pub dumped_in : ℕ → List StepCounts → ℕ
dumped_in place counts = unwrap_or (option_map (λ x. x.dumped) (slice_get counts place)) 0

-- how many packets of the store at a place were dumped in the halted step: those that it has deleted, less those that
-- the report says were dumped
abbrev pub dumped_at : ℕ → StoppedRun → ℕ
dumped_at place run = unwrap_or (option_map (λ h. h.state.deleted) (slice_get run.memory.stores place)) 0
    - sum_by (dumped_in place) run.halted.report.steps

-- how many packets were sent in the halted step and are still held: of what was spent, what was neither a failed send
-- nor dumped
abbrev pub still_held : StoppedRun → ℕ
still_held run = run.halted.spent - sum_by (λ l. l.failed) run.halted.links.items
    - sum_by (λ place. dumped_at place run) (range_with_len 0 (length run.memory.stores))

-- how many packets a store holds
abbrev pub volume_of : Held → Volume
volume_of h = record { store = h.id; blocks = length h.state.store.content }
