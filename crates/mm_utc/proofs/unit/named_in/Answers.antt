use Rattle.mm_utc.proofs.UnitLemmas.{unit_found}
use Rattle.mm_utc.proofs.unit.named_in.Goals as goal

pub returns : goal.returns
returns c = rw c.first_named.ensures (unit_found c.args.all.now c.args.name.now c.requires)
