use Rattle.std.proofs.Common.{rules}
use Rattle.refused_allocations.proofs.dumps.dumped.Goals as goal

pub dump-requires-clause-may : goal.dump-requires-clause-may
dump-requires-clause-may g c κs within = record {
  lowest = search rules;
  highest = search rules;
  few = search rules;
  few_orders = search rules;
  places = search rules;
  amounts = search rules;
  distinct = search rules;
  idle = c.idle_stores_suit_orders.ensures.law _ _ (search rules);
  room = search rules;
}
