use Rattle.mm_rest.proofs.Later.{losses}
use Rattle.mm_rest.proofs.laws.losses_add_up.Goals as goal

pub returns : goal.returns
returns c q x n before = losses q x n before
