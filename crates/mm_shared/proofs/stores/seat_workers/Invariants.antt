use Rattle.mm_shared.proofs.Words.{◌≡◌, ◌-◌, length, AreWorkers, IsFresh, ports_after, MAX_SEATS}
use Rattle.std.proofs.Common.{All, vec_capacity}
use Rattle.mm_shared.proofs.stores.seat_workers.Given as goal

abbrev pub invariant-loop : goal.invariant-loop
invariant-loop l = record {
  labels : l.opened.labels ≡ l.initial.opened.labels;
  stores : l.opened.stores ≡ l.initial.opened.stores;
  room : l.opened.room ≡ l.initial.opened.room;
  count : length l.opened.workers.items ≡ l.counter;
  workers : AreWorkers l.initial.opened.rest.of 0 l.opened.workers.items;
  fresh : All IsFresh l.opened.workers.items;
  rest : l.opened.rest ≡ ports_after l.initial.opened.rest.of l.counter (MAX_SEATS - l.counter);
  capacity : vec_capacity l.opened.workers ≡ vec_capacity l.initial.opened.workers;
}
