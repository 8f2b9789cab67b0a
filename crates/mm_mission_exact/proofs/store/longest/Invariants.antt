use Rattle.std.proofs.Common.{◌≡◌, take}
use Rattle.std.specs.Prelude.{filter}
use Rattle.mm_mission_exact.specs.Stores.{longest_of, is_on}
use Rattle.mm_mission_exact.proofs.store.longest.Given as goal

abbrev pub invariant-loop-store : goal.invariant-loop-store
invariant-loop-store l =
    l.longest
    ≡ longest_of l.rows.whole.now (filter (is_on l.channel) (take l.store-index l.rows.stores.now))
