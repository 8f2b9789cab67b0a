use Rattle.std.proofs.Common.{◌-◌}
use Rattle.mm_links.specs.declared.limits.TheConstants.{LAST}
use Rattle.mm_links.specs.Used.{AreUsedUntil}
use Rattle.mm_links.proofs.better.used.Given as goal

abbrev pub invariant-loop-time : goal.invariant-loop-time
invariant-loop-time l = AreUsedUntil l.offers l.time l.parts.items

abbrev pub decreases-loop-time : goal.decreases-loop-time
decreases-loop-time l = LAST - l.time
