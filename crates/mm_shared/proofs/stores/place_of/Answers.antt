use Rattle.mm_shared.proofs.Places.{place_is}
use Rattle.mm_shared.proofs.stores.place_of.Goals as goal

pub returns : goal.returns
returns c =
    let told = place_is c.args.id.now c.args.stores.now c.requires.named c.place_of.result c.place_of.ensures.place in
    record { found = told.0; is = told.1; none = told.2 }
