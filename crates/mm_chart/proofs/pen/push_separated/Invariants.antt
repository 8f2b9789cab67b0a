use Rattle.std.proofs.Common.{◌≡◌, ◌++◌, length}
use Rattle.mm_chart.specs.Svg.{separated}
use Rattle.mm_chart.proofs.pen.push_separated.Given as goal

abbrev pub invariant-loop-rest : goal.invariant-loop-rest
invariant-loop-rest l = l.text.items ++ separated l.rest ≡ l.initial.text.items ++ separated l.digits

abbrev pub decreases-loop-rest : goal.decreases-loop-rest
decreases-loop-rest l = length l.rest
