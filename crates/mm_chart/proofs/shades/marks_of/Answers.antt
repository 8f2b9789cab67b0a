use Rattle.std.proofs.Common.{refl}
use Rattle.mm_cut.proofs.Marking.{unmarked}
use Rattle.mm_chart.proofs.shades.marks_of.Goals as goal

pub loop-shade-init : goal.loop-shade-init
loop-shade-init c = record { places = refl; marks = λ t below. unmarked 257 t }
