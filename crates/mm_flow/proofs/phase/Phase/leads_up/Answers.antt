use Rattle.std.proofs.Common.{slice_index, ap, sym, ◌∙◌, arith}
use Rattle.std.proofs.lemmas.Bool.{ltb-true}
use Rattle.mm_flow.specs.Residual.{residual}
use Rattle.mm_flow.specs.Marks.{level}
use Rattle.mm_flow.proofs.Entries.{twin_ends}
use Rattle.mm_flow.proofs.phase.Phase.leads_up.Goals as goal

pub returns-then-below-height : goal.returns-then-below-height
returns-then-below-height c = λ some.
    let t = c.args.self.now.tables in
    let g = t.residual.network.now.graph in
    let marks = t.search.marks.items in
    let own = c.requires.own in
    let twin_is = c.twin-back.ensures.twin in
    let ends = twin_ends g c.args.step.entry own.known in
    let below = ap (level marks) (ends.0 ∙ sym own.leads) in
    let above = ap (level marks) (ends.1 ∙ own.leaves) in
    record {
      known = omega (arith, c.twin-back.ensures.known, twin_is);
      marked = omega (arith, c.if-below-height.true.0, c.level-below.ensures, below);
      up = omega (arith, c.if-below-height.true.1, c.level-below.ensures, c.level-height.ensures, below, above);
      open_still = omega (
        arith,
        ltb-true 0 c.capacity.result some,
        c.capacity.ensures.residual,
        ap (residual g (slice_index t.residual.flow.items)) twin_is,
      );
    }
