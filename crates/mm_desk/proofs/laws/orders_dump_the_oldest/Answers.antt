use Rattle.mm_desk.proofs.Logs.{order_dumps}
use Rattle.mm_desk.proofs.laws.orders_dump_the_oldest.Goals as goal

pub returns : goal.returns
returns c = record { law = order_dumps }
