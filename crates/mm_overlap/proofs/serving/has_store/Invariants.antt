use Rattle.std.proofs.Common.{◌≡◌, false, take}
use Rattle.std.specs.Prelude.{Some}
use Rattle.std.specs.List.{list_any}
use Rattle.mm_mission.specs.Flows.{is_on}
use Rattle.mm_overlap.proofs.serving.has_store.Given as goal

abbrev pub invariant-loop-store : goal.invariant-loop-store
invariant-loop-store l = list_any (is_on (Some l.channel)) (take l.store l.mission.stores) ≡ false
