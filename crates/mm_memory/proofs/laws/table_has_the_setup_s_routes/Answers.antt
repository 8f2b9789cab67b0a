use Rattle.mm_memory.proofs.Words.{[], arith}
use Rattle.mm_memory.proofs.LawLemmas.{has_row-added}
use Rattle.mm_memory.proofs.laws.table_has_the_setup_s_routes.Goals as goal

pub returns : goal.returns
returns c = record {
  law = λ routes row. has_row-added c.tables_are_sets.ensures.law row [] routes
      (λ i j d less within. absurd (omega arith));
}
