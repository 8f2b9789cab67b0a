use Rattle.mm_shared.proofs.Words.{Delete}
use Rattle.mm_desk.specs.declared.reply.Reply.TheVariants as reply
use Rattle.mm_shared.proofs.shared.SharedStores.delete.Given as goal

abbrev pub ghosts-give : goal.ghosts-give
ghosts-give g a = record { event = Delete a._asked.now; reply = reply.Deleted a._answer.now }
