use Rattle.std.proofs.Common.{◌-◌}
use Rattle.mm_base.specs.declared.limits.TheConstants.{CHANNELS}
use Rattle.mm_links.proofs.widest.+narrowed.Given as goal

abbrev pub decreases-narrowed : goal.decreases-narrowed
decreases-narrowed l = CHANNELS - l.channel
