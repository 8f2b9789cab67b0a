use Rattle.std.proofs.Common.{◌-◌}
use Rattle.mm_links.specs.declared.limits.TheConstants.{LAST}
use Rattle.mm_links.specs.Used.{IsPart}
use Rattle.mm_links.proofs.better.end_of_use.Given as goal

abbrev pub invariant-loop-end : goal.invariant-loop-end
invariant-loop-end l = IsPart l.offers (record { pass = l.pass; begin = l.time; end = l.end })

abbrev pub decreases-loop-end : goal.decreases-loop-end
decreases-loop-end l = LAST - l.end
