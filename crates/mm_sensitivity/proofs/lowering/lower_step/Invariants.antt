use Rattle.std.proofs.Common.{◌≡◌, length}
use Rattle.mm_base.specs.declared.limits.TheConstants.{CHANNELS}
use Rattle.mm_plan.specs.Table.{HasShape}
use Rattle.mm_sensitivity.proofs.lowering.lower_step.Given as goal

abbrev pub invariant-loop-store : goal.invariant-loop-store
invariant-loop-store l = record {
  shape : HasShape l.problem l.lowered;
  channels : length l.limits ≡ CHANNELS;
}
