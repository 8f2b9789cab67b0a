use Rattle.mm_desk.proofs.LossLemmas.{loses_new, loses_oldest, give_later, gives_rising}
use Rattle.mm_desk.proofs.RetrievalLemmas.{is_ordered}
use Rattle.mm_desk.proofs.laws.stores_lose_new_or_oldest.Goals as goal

pub returns : goal.returns
returns c = record {
  bounded = loses_new;
  circular = loses_oldest;
  later = λ s es more sound. give_later s es more (is_ordered s sound);
  rising = λ s parts sound. gives_rising s parts (is_ordered s sound);
}
