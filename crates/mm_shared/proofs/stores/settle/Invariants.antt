use Rattle.mm_shared.proofs.Words.{◌≡◌, ◌-◌, ◌++◌, [], drop, length, map, replicate, vec_len, MAX_SEATS}
use Rattle.std.proofs.Common.{vec_capacity}
use Rattle.mm_shared.proofs.Lists.{AreFirst}
use Rattle.mm_shared.proofs.stores.settle.Given as goal

abbrev pub invariant-loop-port : goal.invariant-loop-port
invariant-loop-port l = record {
  labels : l.opened.labels ≡ l.initial.opened.labels;
  stores : l.opened.stores ≡ l.initial.opened.stores;
  room : l.opened.room ≡ l.initial.opened.room;
  first : AreFirst l.initial.opened.workers.items l.opened.workers.items;
  rest : l.opened.rest ≡ record {
    of = l.initial.opened.rest.of;
    first = length l.opened.workers.items;
    lists =
        map (λ w. w.list) (drop (length l.opened.workers.items) l.initial.opened.workers.items)
        ++ replicate (MAX_SEATS - length l.initial.opened.workers.items) [];
  };
  capacity : vec_capacity l.opened.workers ≡ vec_capacity l.initial.opened.workers;
}

abbrev pub decreases-loop-port : goal.decreases-loop-port
decreases-loop-port l = vec_len l.opened.workers
