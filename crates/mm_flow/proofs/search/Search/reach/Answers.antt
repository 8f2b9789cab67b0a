use Rattle.std.proofs.Common.{sym, refl, arith, slice_index}
use Rattle.mm_flow.proofs.Marking.{search_more}
use Rattle.mm_flow.proofs.search.Search.reach.Goals as goal

pub returns-clause-search : goal.returns-clause-search
returns-clause-search c =
    let r = c.args.residual.now in
    let s = c.args.self.now in
    let own = c.requires.own in
    search_more r.network.now.graph (slice_index r.flow.items) s.source s.least s.marks.items s.order.items s.found
    s.done c.args.step.entry c.args.step.head c.args.node _ c.requires.search own.known own.leads (sym own.leaves)
    own.there c.requires.from (omega arith) refl (omega arith) (omega (arith, c.capacity-capacity.ensures.residual))
