use Rattle.std.proofs.Common.{◌≡◌, [], drop}
use Rattle.mm_mission_exact.specs.Each.{each_in}
use Rattle.mm_mission_exact.specs.Stores.{and_store}
use Rattle.mm_mission_exact.proofs.store.each_store.Given as goal

abbrev pub invariant-loop-place : goal.invariant-loop-place
invariant-loop-place l =
    each_in (and_store l.whole l.octets) 0 [] l.rows ≡ each_in (and_store l.whole l.octets) l.place
    l.stores.items (drop l.place l.rows)
