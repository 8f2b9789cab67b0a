use Rattle.std.proofs.Common.{◌+◌, ◌-◌, ◌*◌, length}
use Rattle.mm_base.specs.declared.limits.TheConstants.{MAX_STORES}
use Rattle.mm_plan.specs.Table.{HasShape}
use Rattle.mm_exhaustive.proofs.trying.+try_from.Given as goal

-- the places that are left, with one more for each step
abbrev pub decreases-try_from : goal.decreases-try_from
decreases-try_from l = (length l.problem.now.windows + 1 - l.step) * (MAX_STORES + 1) + (MAX_STORES - l.store)

abbrev pub invariant-loop-blocks : goal.invariant-loop-blocks
invariant-loop-blocks l = HasShape l.problem l.plan
