use Rattle.std.proofs.Common.{refl}
use Rattle.mm_cut.proofs.Marking.{unmarked}
use Rattle.mm_cut.proofs.marks.listed_steps.Goals as goal

pub loop-step-init : goal.loop-step-init
loop-step-init c = record { places = refl; listed = λ t below. unmarked 257 t }
