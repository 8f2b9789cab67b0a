use Rattle.std.proofs.Common.{take}
use Rattle.std.specs.List.{flat_map}
use Rattle.mm_overlap.specs.Better.{rates_of, IsLeastTime}
use Rattle.mm_overlap.proofs.rates.common_time.Given as goal

abbrev pub invariant-loop-row : goal.invariant-loop-row
invariant-loop-row l = IsLeastTime (flat_map (rates_of l.channels) (take l.row l.passes)) l.time
