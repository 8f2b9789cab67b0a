use Rattle.std.proofs.Common.{◌≢◌, ◌<◌, ◌≤◌, All, AllPairs, vec_len}
use Rattle.tests_run.proofs.tests.dumps.new_orders.Given as goal

abbrev pub invariant-loop-place : goal.invariant-loop-place
invariant-loop-place g l = record {
  few : vec_len l.orders ≤ l.place;
  places : All (λ o. o.place < l.place) l.orders.items;
  amounts : All (λ o. 1 ≤ o.amount) l.orders.items;
  distinct : AllPairs (λ a b. a.place ≢ b.place) l.orders.items;
}
