use Rattle.mm_memory.proofs.LossLemmas.{turns_lose}
use Rattle.mm_memory.proofs.laws.stores_lose_new_or_oldest.Goals as goal

pub returns : goal.returns
returns c = record {
  law = λ m turns made id.
      let laws = c.stores_lose_new_or_oldest.ensures in turns_lose laws.bounded laws.circular id m turns made;
}
