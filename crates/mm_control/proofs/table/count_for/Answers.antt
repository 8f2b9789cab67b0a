use Rattle.std.proofs.Common.{rules, tests, of_calls, not}
use Rattle.std.proofs.lemmas.Iterator.{YieldsList-from_slice}
use Rattle.std.proofs.lemmas.Iterator.Search.{position_from_yields_List}
use Rattle.mm_base.specs.declared.rows.RouteRow.{RouteRow}
use Rattle.mm_control.specs.Routes.{is_for}
use Rattle.mm_control.proofs.RunLemmas.{place_or_length}
use Rattle.mm_control.proofs.table.count_for.Goals as goal

pub returns : goal.returns
returns c =
    let rows = c.args.rows.now in
    let test = is_for c.args.apid c.args.service c.args.subtype in
    let found = position_from_yields_List (λ (r : RouteRow). not (test r)) _ _ c.position.result c.position.ensures.ran
    (YieldsList-from_slice rows cc) (λ x b q k. search (rules, tests, of_calls)) in
    let place = place_or_length test rows c.position.result found in
    search rules
