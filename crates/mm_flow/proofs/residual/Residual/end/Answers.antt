use Rattle.std.proofs.Common.{◌∙◌}
use Rattle.mm_flow.proofs.Linking.{end_is}
use Rattle.mm_flow.proofs.residual.Residual.end.Goals as goal

pub returns : goal.returns
returns c = c.start.ensures ∙ end_is c.args.self.now.network.now.graph c.args.node
