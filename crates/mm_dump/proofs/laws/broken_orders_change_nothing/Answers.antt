use Rattle.mm_dump.proofs.Leaving.{broken_keeps}
use Rattle.mm_dump.proofs.laws.broken_orders_change_nothing.Goals as goal

pub returns : goal.returns
returns c = record { law = broken_keeps }
