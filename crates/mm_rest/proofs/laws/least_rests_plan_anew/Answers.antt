use Rattle.mm_rest.proofs.Later.{least_after}
use Rattle.mm_rest.proofs.laws.least_rests_plan_anew.Goals as goal

pub returns : goal.returns
returns c q x z n before least y fits same = least_after q x z n before least y fits same
