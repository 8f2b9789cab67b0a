use Rattle.std.proofs.Common.{◌≡◌, ◌+◌, ◌*◌, ◌++◌, length, take}
use Rattle.std.specs.List.{flat_map, AllByRecursion}
use Rattle.mm_st15.specs.Layout.{octets_of, Fits}
use Rattle.mm_st15.proofs.entry.put_entries.Given as goal

abbrev pub invariant-loop-entry : goal.invariant-loop-entry
invariant-loop-entry g l = record {
  octets : l.out.items ≡ l.fn.out.items ++ flat_map (octets_of g.E.Entry.layout) (take l.entry-index l.entry-items);
  len : length l.out.items ≡ length l.fn.out.items + l.entry-index * g.E.Entry.WIDTH;
  each : AllByRecursion (Fits g.E.Entry.layout) (take l.entry-index l.entry-items);
}
