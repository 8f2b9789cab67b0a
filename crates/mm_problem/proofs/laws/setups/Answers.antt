use Rattle.mm_problem.proofs.SetupLaws.{setup_said, setup_read}
use Rattle.mm_problem.proofs.laws.setups.Goals as goal

pub returns : goal.returns
returns c = λ octets m. (setup_said octets m, setup_read octets m)
