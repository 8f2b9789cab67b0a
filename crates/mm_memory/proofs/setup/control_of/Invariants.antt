use Rattle.mm_memory.proofs.Words.{◌≡◌, ◌≤◌, length, take, table_of}
use Rattle.mm_memory.proofs.setup.control_of.Given as goal

abbrev pub invariant-loop-route : goal.invariant-loop-route
invariant-loop-route l = record {
  rows : l.control ≡ table_of (take l.route-index l.routes);
  few : length l.control ≤ l.route-index;
}
