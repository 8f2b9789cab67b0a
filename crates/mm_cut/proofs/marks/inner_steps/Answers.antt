use Rattle.std.proofs.Common.{refl}
use Rattle.mm_cut.proofs.Marking.{unmarked}
use Rattle.mm_cut.proofs.marks.inner_steps.Goals as goal

pub loop-stretch-init : goal.loop-stretch-init
loop-stretch-init c = record { places = refl; inner = λ t. unmarked 257 t }
