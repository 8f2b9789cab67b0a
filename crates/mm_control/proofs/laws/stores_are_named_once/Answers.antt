use Rattle.mm_control.proofs.NamedLemmas.{named_once, named_in_order}
use Rattle.mm_control.proofs.laws.stores_are_named_once.Goals as goal

pub returns : goal.returns
returns c = record {
  law = λ apid service subtype id rows in_order. named_once apid service subtype id rows in_order;
  in_order = named_in_order;
}
