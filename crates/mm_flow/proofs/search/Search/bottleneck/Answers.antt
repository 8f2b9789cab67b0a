use Rattle.std.proofs.Common.{◌≡◌, ◌≢◌, ℕ, slice_index, ap, sym, ◌∙◌, subst, arith}
use Rattle.mm_flow.specs.Residual.{tail, residual}
use Rattle.mm_flow.specs.Marks.{mark, level, HasMark, IsReached}
use Rattle.mm_flow.specs.Levels.{HasPath, Carries}
use Rattle.mm_flow.proofs.Visiting.{marked_lt}
use Rattle.mm_flow.proofs.LevelPaths.{path_marked, path_back, path_on}
use Rattle.mm_flow.proofs.search.Search.bottleneck.Goals as goal
use Rattle.mm_flow.proofs.search.Search.bottleneck.Goals.{In-loop-at}

-- the path to the node that was come to can carry something
at_path : (c : In-loop-at) → Carries c.args.residual.now c.args.self.now 1 c.loop-at.at
at_path c = (c.loop-at.invariant.greatest 1 (omega arith) c.requires.path).1

-- that node is marked
at_marked : (c : In-loop-at) → HasMark c.args.self.now.marks.items c.loop-at.at
at_marked c =
    let r = c.args.residual.now in
    let s = c.args.self.now in
    path_marked r.network.now.graph (slice_index r.flow.items) s.marks.items s.source 1 c.loop-at.at
    c.requires.levelled.start (at_path c)

-- it was reached by an entry
at_reached : (c : In-loop-at) → c.loop-at.at ≢ c.args.self.now.source
    → IsReached c.args.residual.now.network.now.graph
    (slice_index c.args.residual.now.flow.items) c.args.self.now.marks.items 1 c.loop-at.at
at_reached c inner =
    let r = c.args.residual.now in
    let s = c.args.self.now in
    (path_back r.network.now.graph (slice_index r.flow.items) s.marks.items s.source 1 c.loop-at.at inner (at_path c)).0

pub via-entry-requires : goal.via-entry-requires
via-entry-requires c = marked_lt c.args.self.now.marks.items c.loop-at.at
    (at_marked (goal.at.via-entry-requires c).In-loop-at)

pub capacity-requires : goal.capacity-requires
capacity-requires c = omega
    (arith, c.via-entry.ensures, (at_reached (goal.at.capacity-requires c).In-loop-at (omega arith)).known)

pub tail-at-requires : goal.tail-at-requires
tail-at-requires c = omega
    (arith, c.via-entry.ensures, (at_reached (goal.at.tail-at-requires c).In-loop-at (omega arith)).known)

pub loop-at-smaller : goal.loop-at-smaller
loop-at-smaller c =
    let here = (goal.at.loop-at-smaller c).In-loop-at in
    let marks = c.args.self.now.marks.items in
    let leaves = c.tail-at.ensures.node ∙ ap (tail c.args.residual.now.network.now.graph) c.via-entry.ensures in
    omega (arith, (at_reached here (omega arith)).above, ap (level marks) leaves)

pub loop-at-preserved : goal.loop-at-preserved
loop-at-preserved c =
    let here = (goal.at.loop-at-preserved c).In-loop-at in
    let g = c.args.residual.now.network.now.graph in
    let f = slice_index c.args.residual.now.flow.items in
    let marks = c.args.self.now.marks.items in
    let source = c.args.self.now.source in
    let at = c.loop-at.at in
    let invariant = c.loop-at.invariant in
    let leaves = c.tail-at.ensures.node ∙ ap (tail g) c.via-entry.ensures in
    let carries : c.capacity.result ≡ residual g f (mark marks at).via =
    c.capacity.ensures.residual ∙ ap (residual g f) c.via-entry.ensures in
    record {
      within = omega (arith, c.min-least.ensures, invariant.within);
      fits = λ amount fits path. invariant.fits amount (omega (arith, c.min-least.ensures))
          (path_on g f marks source 1 amount at (at_reached here (omega arith))
          (omega (arith, c.min-least.ensures, carries))
          (subst (λ (n : ℕ). HasPath g f marks source amount n) leaves path));
      greatest = λ amount within path.
          let before = invariant.greatest amount within path in
          let back = path_back g f marks source amount at (omega arith) before.1 in (
            omega (arith, c.min-least.ensures, carries, before.0, back.0.fits),
            subst (λ (n : ℕ). HasPath g f marks source amount n) (sym leaves) back.1,
          );
    }

pub returns-clause-greatest : goal.returns-clause-greatest
returns-clause-greatest c = λ amount within path. (c.loop-at.invariant.greatest amount within path).0
