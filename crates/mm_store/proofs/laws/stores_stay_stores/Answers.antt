use Rattle.mm_store.proofs.ContentLemmas.{IsStore-delete_up_to}
use Rattle.mm_store.proofs.PutLemmas.{IsStore-put}
use Rattle.mm_store.proofs.laws.stores_stay_stores.Goals as goal

pub returns : goal.returns
returns c = record { put = IsStore-put; delete_up_to = IsStore-delete_up_to }
