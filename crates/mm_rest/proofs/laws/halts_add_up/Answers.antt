use Rattle.mm_rest.proofs.Resumes.{halt_adds_up}
use Rattle.mm_rest.proofs.laws.halts_add_up.Goals as goal

pub returns : goal.returns
returns c q x z n halted is = halt_adds_up q x z n halted is
