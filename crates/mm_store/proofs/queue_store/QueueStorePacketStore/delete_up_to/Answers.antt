use Rattle.mm_store.proofs.ContentLemmas.{IsStore-delete_up_to}
use Rattle.mm_store.proofs.queue_store.QueueStorePacketStore.delete_up_to.Goals as goal

pub invariant_of-self : goal.invariant_of-self
invariant_of-self g c = rw c.delete_up_to.ensures.kept (IsStore-delete_up_to _ c.args.limit c.self.invariant)

pub returns-clause-sound : goal.returns-clause-sound
returns-clause-sound g c = rw c.delete_up_to.ensures.kept (IsStore-delete_up_to _ c.args.limit c.self.invariant)
