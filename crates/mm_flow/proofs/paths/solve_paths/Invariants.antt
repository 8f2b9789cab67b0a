use Rattle.std.proofs.Common.{◌-◌}
use Rattle.mm_flow.specs.declared.limits.TheConstants.{MAX_VALUE}
use Rattle.mm_flow.specs.Task.{IsTask}
use Rattle.mm_flow.proofs.paths.solve_paths.Given as goal

abbrev pub invariant-loop-tables : goal.invariant-loop-tables
invariant-loop-tables l = IsTask l.network.graph l.source l.sink l.tables

abbrev pub decreases-loop-tables : goal.decreases-loop-tables
decreases-loop-tables l = MAX_VALUE - l.tables.value
