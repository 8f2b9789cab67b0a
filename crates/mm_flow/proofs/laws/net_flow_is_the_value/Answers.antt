use Rattle.mm_flow.proofs.Sides.{net_flow}
use Rattle.mm_flow.proofs.laws.net_flow_is_the_value.Goals as goal

pub returns : goal.returns
returns c = net_flow
