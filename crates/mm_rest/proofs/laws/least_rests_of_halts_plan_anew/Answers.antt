use Rattle.mm_rest.proofs.HaltFits.{halt_least}
use Rattle.mm_rest.proofs.laws.least_rests_of_halts_plan_anew.Goals as goal

pub returns : goal.returns
returns c q x z n halted within is until least = halt_least q x z n halted within.channels.all is until least
