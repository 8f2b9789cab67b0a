use Rattle.std.proofs.Common.{◌≡◌, take}
use Rattle.std.specs.Prelude.{map}
use Rattle.mm_overlap.specs.Better.{part_of}
use Rattle.mm_overlap.proofs.serving.parts_of.Given as goal

abbrev pub invariant-loop-part : goal.invariant-loop-part
invariant-loop-part l = l.own.items ≡ map (part_of l.passes) (take l.part-index l.parts)
