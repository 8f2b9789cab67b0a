use Rattle.mm_shared.proofs.Words.{Ok, Enable}
use Rattle.mm_desk.specs.declared.reply.Reply.TheVariants as reply
use Rattle.mm_shared.proofs.shared.SharedStores.enable.Given as goal

abbrev pub ghosts-give : goal.ghosts-give
ghosts-give g a = record { event = Enable; reply = reply.Done (Ok tt) }
