use Rattle.mm_control.proofs.RouteLemmas.{searched}
use Rattle.mm_control.proofs.table.place_of.Goals as goal

pub returns : goal.returns
returns c =
    let told = searched c.args.row.now c.args.rows.now c.binary_search.result c.requires c.binary_search.ensures.bound
    c.binary_search.ensures.position in
    record { found = told.0; stands = told.1; would_stand = told.2 }
