use Rattle.mm_memory.proofs.Words.{rules, tests, YieldsList-from_slice, position_from_yields_List, has_id}
use Rattle.mm_memory.proofs.places.place_of_field.Goals as goal

pub returns : goal.returns
returns c = record {
  place = position_from_yields_List (has_id c.args.field.now) _ _ c.position.result c.position.ensures.ran
      (YieldsList-from_slice c.args.stores.now cc) (λ x b q k. search (rules, tests));
}
