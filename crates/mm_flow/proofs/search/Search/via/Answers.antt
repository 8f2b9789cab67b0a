use Rattle.std.proofs.Common.{ap}
use Rattle.std.proofs.lemmas.List.{get_or_read}
use Rattle.mm_flow.specs.declared.search.Mark.{Mark}
use Rattle.mm_flow.specs.Marks.{no_mark}
use Rattle.mm_flow.proofs.search.Search.via.Goals as goal

pub returns : goal.returns
returns c = ap (λ (m : Mark). m.via)
    (get_or_read c.args.self.now.marks.items c.args.node c.index.result.now c.requires c.index.ensures no_mark)
