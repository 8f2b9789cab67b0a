use Rattle.mm_memory.proofs.RetrievalLemmas.{gives_range}
use Rattle.mm_memory.proofs.laws.retrievals_give_their_range.Goals as goal

pub returns : goal.returns
returns c = record {
  law = λ from to id m turns made begun on.
      gives_range id c.retrievals_give_their_range.ensures.law from to m turns made begun on;
}
