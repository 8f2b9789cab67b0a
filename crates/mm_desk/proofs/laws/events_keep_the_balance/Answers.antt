use Rattle.mm_desk.proofs.Keeping.{balanced}
use Rattle.mm_desk.proofs.laws.events_keep_the_balance.Goals as goal

pub returns : goal.returns
returns c = record { law = λ s e sound. balanced c.stores_lose_alike.ensures.law s sound e }
