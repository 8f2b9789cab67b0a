use Rattle.std.proofs.Common.{◌≡◌, ◌++◌, length, take, drop, replicate, slice_index, arith, refl}
use Rattle.std.proofs.lemmas.Grind.{common_steps}
use Rattle.mm_flow.specs.Marks.{no_mark}
use Rattle.mm_flow.specs.declared.search.Mark.{Mark}
use Rattle.mm_flow.proofs.Marking.{search_begun}
use Rattle.mm_flow.proofs.search.Search.start.Goals as goal

pub returns-clause-begun : goal.returns-clause-begun
returns-clause-begun c =
    let g = c.args.residual.now.network.now.graph in
    let s = c.args.self.now in
    let start : Mark = record { level = 1; via = 0 } in
    let cleared : take s.marks.len (c.clear.new.marks ++ drop (length c.clear.new.marks) s.marks.items) ≡ replicate g.nodes no_mark = grind (arith, common_steps) in
    rw cleared (search_begun g (slice_index c.args.residual.now.flow.items) s.source c.args.least s.order.items start c.requires.fits.source c.requires.fits.order refl)
