use Rattle.mm_shared.proofs.Words.{Begin}
use Rattle.mm_desk.specs.declared.reply.Reply.TheVariants as reply
use Rattle.mm_shared.proofs.shared.SharedStores.begin.Given as goal

abbrev pub ghosts-give : goal.ghosts-give
ghosts-give g a = record { event = Begin a._asked.now.0 a._asked.now.1; reply = reply.Done a._answer.now }
