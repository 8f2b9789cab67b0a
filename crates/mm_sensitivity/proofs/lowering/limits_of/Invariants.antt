use Rattle.std.proofs.Common.{◌≡◌, length}
use Rattle.mm_base.specs.declared.limits.TheConstants.{CHANNELS}
use Rattle.mm_sensitivity.proofs.lowering.limits_of.Given as goal

abbrev pub invariant-loop-channel : goal.invariant-loop-channel
invariant-loop-channel l = length l.limits ≡ CHANNELS
