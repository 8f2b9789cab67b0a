use Rattle.mm_shared.proofs.Words.{Abort}
use Rattle.mm_desk.specs.declared.reply.Reply.TheVariants as reply
use Rattle.mm_shared.proofs.shared.SharedStores.abort.Given as goal

abbrev pub ghosts-give : goal.ghosts-give
ghosts-give g a = record { event = Abort; reply = reply.Done a._answer.now }
