use Rattle.std.proofs.Common.{◌≡◌, ℕ, List, slice_index, replicate, ap, sym, ◌∙◌, refl, subst, arith, rules}
use Rattle.mm_flow.specs.Solution.{HasUnlimitedPath}
use Rattle.mm_flow.proofs.Marking.{slice_index-nothing}
use Rattle.mm_flow.proofs.Ends.{value_bounded, nothing_augmented, unlimited_path, no_unlimited_path}
use Rattle.mm_flow.proofs.LevelPaths.{marking_levelled}
use Rattle.mm_flow.proofs.tables.Tables.new.Goals as goal
use Rattle.mm_flow.proofs.tables.Tables.new.Goals.{After-run}

-- a flow of zeros carries nothing
nothing_in : (items : List ℕ) (count : ℕ) → items ≡ replicate count 0 → (k : ℕ) → slice_index items k ≡ 0
nothing_in items count same k = ap (λ (xs : List ℕ). slice_index xs k) same ∙ slice_index-nothing count k

-- the flow carries nothing
nothing : (c : After-run) → (k : ℕ) → slice_index c.in_ok-flow.flow.items k ≡ 0
nothing c = nothing_in c.in_ok-flow.flow.items c.arc_count.result (search rules)

-- the source of the search
source_is : (c : After-run) → c.run.new.self.source ≡ c.args.source
source_is c = c.run.ensures.source ∙ c.in_ok-search.ensures.source

pub has_marked-requires : goal.has_marked-requires
has_marked-requires c = omega (arith, c.run.ensures.fits.marks, c.requires.sink)

pub returns-then-has_marked-clause-refused : goal.returns-then-has_marked-clause-refused
returns-then-has_marked-clause-refused c =
    let here = (goal.at.returns-then-has_marked-clause-refused c).After-run in
    let has = c.has_marked.ensures.marked c.if-has_marked.true in
    let path = unlimited_path c.arc_count.ensures.network (nothing here) c.run.ensures.searched c.args.sink has in
    record {
      same_ends = search rules;
      unbounded = λ _. (
        c.if-source-sink.false,
        subst (λ (n : ℕ). HasUnlimitedPath c.args.network.now.graph n c.args.sink) (source_is here) path,
      );
      bounded = search rules;
    }

pub invariant_of-residual : goal.invariant_of-residual
invariant_of-residual c =
    let none = nothing_in c.in_ok-flow.flow.items c.arc_count.result (search rules) in
    record {
      sound = record {
        linked = c.in_ok-links.ensures;
        arcs = omega (arith, c.in_ok-flow.ensures.len, c.arc_count.ensures.count);
        within = λ k most is. omega (arith, none k);
      };
    }

pub invariant_of-result : goal.invariant_of-result
invariant_of-result c =
    let g = c.args.network.now.graph in
    let s = c.run.new.self in
    let here = (goal.at.invariant_of-result c).After-run in
    let missed = c.has_marked.ensures.missed c.if-has_marked.false in
    let searched = c.run.ensures.searched in
    record {
      at_work = record {
        ends = λ same. c.if-source-sink.false (sym (source_is here) ∙ same);
        sink_known = c.requires.sink;
        fits = c.run.ensures.fits;
        levelled = marking_levelled searched.marking;
        bounded = value_bounded c.arc_count.ensures.network (nothing here) searched c.args.sink missed;
        augmented = nothing_augmented g s.source c.args.sink (slice_index c.in_ok-flow.flow.items) (nothing here);
      };
    }

pub returns-clause-task : goal.returns-clause-task
returns-clause-task c = record
    { graph = refl; source = source_is (goal.at.returns-clause-task c).After-run; sink = refl }

pub returns-clause-refused : goal.returns-clause-refused
returns-clause-refused c =
    let here = (goal.at.returns-clause-refused c).After-run in
    let missed = c.has_marked.ensures.missed c.if-has_marked.false in
    let none = no_unlimited_path c.arc_count.ensures.network (nothing here) c.run.ensures.searched c.args.sink missed in
    record {
      same_ends = search rules;
      unbounded = search rules;
      bounded = subst (λ (n : ℕ). ¬ HasUnlimitedPath c.args.network.now.graph n c.args.sink) (source_is here) none;
    }
