use Rattle.mm_shared.proofs.Words.{Next}
use Rattle.mm_desk.specs.declared.reply.Reply.TheVariants as reply
use Rattle.mm_shared.proofs.shared.SharedStores.next.Given as goal

abbrev pub ghosts-give : goal.ghosts-give
ghosts-give g a = record { event = Next; reply = reply.Given a._answer.now }
