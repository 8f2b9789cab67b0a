use Rattle.std.proofs.Common.{refl}
use Rattle.mm_utc.specs.Units.{units}
use Rattle.mm_utc.proofs.laws.units_differ.Goals as goal

pub returns : goal.returns
unfolding units
returns c = refl
