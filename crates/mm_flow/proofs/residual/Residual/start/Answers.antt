use Rattle.std.proofs.Common.{◌∙◌, arith}
use Rattle.std.proofs.lemmas.List.{get_or_read}
use Rattle.mm_flow.proofs.residual.Residual.start.Goals as goal

pub returns : goal.returns
returns c =
    let r = c.args.self.now in
    let linked = r.sound.linked in
    get_or_read r.links.first.items c.args.node c.index.result.now (omega (arith, linked.table_size, c.requires)) c.index.ensures 0 ∙ linked.starts c.args.node (omega (arith, c.requires))
