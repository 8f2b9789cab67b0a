use Rattle.std.proofs.Common.{◌≡◌, ◌≢◌, ℕ, slice_index, sym, ap, ◌∙◌, subst, arith}
use Rattle.mm_flow.specs.Marks.{level}
use Rattle.mm_flow.specs.Residual.{place}
use Rattle.mm_flow.specs.Balance.{IsBalancedAt}
use Rattle.mm_flow.proofs.Visiting.{marked_lt}
use Rattle.mm_flow.proofs.Augmenting.{IsReady, followed_ready, followed_next, untouched_start, balanced_start}
use Rattle.mm_flow.proofs.Augmenting.{balanced_next, balanced_end}
use Rattle.mm_flow.proofs.LevelPaths.{path_marked}
use Rattle.mm_flow.proofs.search.Search.push_along.Goals as goal
use Rattle.mm_flow.proofs.search.Search.push_along.Goals.{After-via-entry}

-- the entry by which the node was reached is ready
entry_ready : (c : After-via-entry) → c.loop-at.at ≢ c.args.self.now.source
    → IsReady c.args.network.now.graph c.args.self.now.marks.items (slice_index c.args.flow.now)
    (slice_index c.loop-at.flow) c.args.self.now.source c.loop-at.at c.via-entry.result c.args.amount
entry_ready c inner =
    followed_ready c.args.network.now.graph c.args.self.now.marks.items (slice_index c.args.flow.now)
    (slice_index c.loop-at.flow) c.args.self.now.source c.loop-at.at c.via-entry.result c.args.amount inner
    c.loop-at.invariant.followed c.via-entry.ensures

pub via-entry-requires : goal.via-entry-requires
via-entry-requires c = marked_lt c.args.self.now.marks.items c.loop-at.at c.loop-at.invariant.followed.marked

pub loop-at-init : goal.loop-at-init
loop-at-init c =
    let g = c.args.network.now.graph in
    let f = slice_index c.args.flow.now in
    let s = c.args.self.now in
    record {
      followed = record {
        marked = path_marked g f s.marks.items s.source c.args.amount c.args.sink c.requires.levelled.start
            c.requires.path;
        path = c.requires.path;
        within = c.requires.carried.within;
        most = λ k. omega arith;
        untouched = untouched_start g s.marks.items f _;
      };
      balanced = λ value balanced. balanced_start g s.source c.args.sink f value c.args.amount balanced;
      source = λ k _. omega arith;
    }

pub push-requires-clause-entry : goal.push-requires-clause-entry
push-requires-clause-entry c = (entry_ready (goal.at.push-requires-clause-entry c).After-via-entry (omega arith)).known

pub push-requires-clause-fits : goal.push-requires-clause-fits
push-requires-clause-fits c = (entry_ready (goal.at.push-requires-clause-fits c).After-via-entry (omega arith)).fits

pub push-requires-clause-small : goal.push-requires-clause-small
push-requires-clause-small c =
    let ready = entry_ready (goal.at.push-requires-clause-small c).After-via-entry (omega arith) in
    omega (arith, ready.same, c.requires.carried.small (place c.args.network.now.graph c.via-entry.result))

pub tail-at-requires : goal.tail-at-requires
tail-at-requires c = (entry_ready (goal.at.tail-at-requires c).After-via-entry (omega arith)).known

pub loop-at-smaller : goal.loop-at-smaller
loop-at-smaller c =
    let ready = entry_ready (goal.at.loop-at-smaller c).After-via-entry (omega arith) in
    omega (arith, ready.below, ap (level c.args.self.now.marks.items) c.tail-at.ensures.node)

pub loop-at-preserved : goal.loop-at-preserved
loop-at-preserved c =
    let g = c.args.network.now.graph in
    let marks = c.args.self.now.marks.items in
    let source = c.args.self.now.source in
    let old = slice_index c.args.flow.now in
    let now = slice_index c.loop-at.flow in
    let new = slice_index c.push.new.flow in
    let at = c.loop-at.at in
    let entry = c.via-entry.result in
    let amount = c.args.amount in
    let invariant = c.loop-at.invariant in
    let ready = entry_ready (goal.at.loop-at-preserved c).After-via-entry (omega arith) in
    let leaves = c.tail-at.ensures.node in
    let inner : at ≢ source = omega arith in
    record {
      followed = followed_next g marks old now new source at entry c.tail-at.result amount invariant.followed ready
          c.push.ensures.pushed leaves;
      balanced = λ value balanced. rw leaves (balanced_next g source c.args.sink now new value at entry amount
          c.push.ensures.pushed ready.leads (invariant.balanced value balanced));
      source = λ k leaves. omega (
        arith,
        invariant.source k leaves,
        c.push.ensures.pushed.kept k (λ same. inner (sym ready.leads ∙ sym same ∙ leaves)),
      );
    }

pub returns-clause-augmented : goal.returns-clause-augmented
returns-clause-augmented c =
    let g = c.args.network.now.graph in
    let source = c.args.self.now.source in
    let now = slice_index c.loop-at.flow in
    let amount = c.args.amount in
    let invariant = c.loop-at.invariant in
    let over : c.loop-at.at ≡ source = omega arith in
    λ value augmented. record {
      within = invariant.followed.within;
      balanced = balanced_end g source c.args.sink now value amount
          (subst (λ (n : ℕ). IsBalancedAt g source c.args.sink now value n amount) over
          (invariant.balanced value augmented.balanced));
      most = λ k. omega (arith, invariant.followed.most k, augmented.most k);
    }
