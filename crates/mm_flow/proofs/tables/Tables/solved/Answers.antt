use Rattle.std.proofs.Common.{◌≡◌, ℕ, Bool, false, nat_lt, List, slice_index, ap, sym, ◌∙◌, refl, length, subst, arith}
use Rattle.std.specs.List.{slice_index_or}
use Rattle.std.proofs.Math.Path.{fun_ext}
use Rattle.std.proofs.Math.ListN.{get_or-map, length-map}
use Rattle.mm_flow.specs.declared.search.Mark.{Mark}
use Rattle.mm_flow.specs.Cut.{Side}
use Rattle.mm_flow.specs.Solution.{IsSolution, side_of}
use Rattle.mm_flow.specs.Marks.{no_mark}
use Rattle.mm_flow.proofs.Augmenting.{augmented_flow}
use Rattle.mm_flow.proofs.Ends.{reached_side, solved_by}
use Rattle.mm_flow.proofs.tables.Tables.solved.Goals as goal

pub returns-clause-solved : goal.returns-clause-solved
unfolding reached_side
returns-clause-solved c =
    let t = c.args.self in
    let g = t.residual.network.now.graph in
    let source = t.search.source in
    let side = c.in_ok-side.side.items in
    let marks = t.search.marks.items in
    let carried = t.residual.flow.items in
    let same_side : side_of side ≡ reached_side marks = fun_ext λ n.
    ap (λ (table : List Bool). slice_index_or table n false) c.in_ok-side.ensures
    ∙ get_or-map (λ (m : Mark). nat_lt 0 m.level) marks n no_mark in
    let items : c.into_flow.result.items ≡ carried = rw c.into_flow.ensures refl in
    let flow = augmented_flow g source t.sink (slice_index carried) t.value t.at_work.ends t.at_work.augmented in
    let best = solved_by flow c.requires.over.searched c.requires.over.missed in
    let sides = length-map marks (λ (m : Mark). nat_lt 0 m.level) in
    record {
      arcs = omega (arith, ap length items, t.residual.sound.arcs);
      nodes = omega (arith, ap length c.in_ok-side.ensures, sides, t.at_work.levelled.size);
      solution = subst (λ (xs : List ℕ). IsSolution g source t.sink (slice_index xs) (side_of side) t.value) (sym items)
          (subst (λ (s : Side). IsSolution g source t.sink (slice_index carried) s t.value) (sym same_side) best);
    }
