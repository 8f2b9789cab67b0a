use Rattle.mm_desk.proofs.PlaceLemmas.{stands_at_first, is_first}
use Rattle.mm_desk.proofs.holding.place_of.Goals as goal

pub returns : goal.returns
returns c =
    let stores = c.args.stores.now in
    let found = c.place_of.ensures.place in
    record {
      stands = stands_at_first c.args.id.now stores c.place_of.result found;
      first = is_first _ _ c.place_of.result found;
    }
