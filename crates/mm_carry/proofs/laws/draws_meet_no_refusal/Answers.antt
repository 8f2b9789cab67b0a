use Rattle.mm_carry.proofs.Drawing.{no_refusal}
use Rattle.mm_carry.proofs.laws.draws_meet_no_refusal.Goals as goal

pub returns : goal.returns
returns c = record { law = no_refusal }
