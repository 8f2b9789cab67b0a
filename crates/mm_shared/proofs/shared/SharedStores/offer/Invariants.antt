use Rattle.mm_shared.proofs.Words.{Offer}
use Rattle.mm_desk.specs.declared.reply.Reply.TheVariants as reply
use Rattle.mm_shared.proofs.shared.SharedStores.offer.Given as goal

abbrev pub ghosts-give : goal.ghosts-give
ghosts-give g a = record { event = Offer a._asked.now.0 a._asked.now.1.value; reply = reply.Offered a._answer.now }
