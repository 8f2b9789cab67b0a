use Rattle.std.proofs.Common.{◌≡◌, ◌++◌, take}
use Rattle.std.specs.Prelude.{codes, flat_map}
use Rattle.mm_sensitivity.specs.Table.{record_of}
use Rattle.mm_sensitivity.proofs.table.table_of.Given as goal

abbrev pub invariant-loop-worth : goal.invariant-loop-worth
invariant-loop-worth l = l.text.items ≡ codes "item,name,step,now,next,most,without\n" ++ flat_map (record_of l.problem) (take l.worth-index l.worths)
