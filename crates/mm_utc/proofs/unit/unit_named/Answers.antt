use Rattle.std.proofs.Common.{refl}
use Rattle.mm_utc.specs.Units.{units}
use Rattle.mm_utc.proofs.unit.unit_named.Goals as goal

pub named_in-requires : goal.named_in-requires
unfolding units
named_in-requires c = refl
