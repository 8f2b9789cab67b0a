use Rattle.std.proofs.Common.{◌≡◌, take}
use Rattle.std.specs.Prelude.{map}
use Rattle.mm_chart.specs.Shading.{shade_of}
use Rattle.mm_chart.proofs.shades.shades_of.Given as goal

abbrev pub invariant-loop-stretch : goal.invariant-loop-stretch
invariant-loop-stretch l = l.shades.items ≡ map (shade_of l.problem) (take l.stretch-index l.stretches)
