use Rattle.mm_control.proofs.RouteLemmas.{adds_one, deletes_one}
use Rattle.mm_control.proofs.laws.tables_are_sets.Goals as goal

pub returns : goal.returns
returns c = record { law = λ row rows in_order. (adds_one row rows in_order, deletes_one row rows in_order) }
