-- What a search that has ended shows: a cut, and whether a path of unlimited arcs leads to the sink.
use Rattle.std.proofs.Common.{◌≡◌, ℕ, zero, suc, ◌+◌, ◌-◌, ◌<◌, ◌≤◌, Bool, cond, eqb, ltb, not, true, false, Option}
use Rattle.std.proofs.Common.{Some, None, List, length, ap, sym, ◌∙◌, refl, arith, inl, inr, lt-ltb, le-ltb}
use Rattle.std.specs.Prelude.{IsSome, unwrap_or}
use Rattle.std.proofs.lemmas.List.FromFn.{length-range_with_len}
use Rattle.std.proofs.lemmas.List.Sums.{sum_by-le}
use Rattle.std.proofs.lemmas.Bool.{cases_eq, cases_lt, cond_both, and_parts, ltb-true, ltb-false, not-true}
use Rattle.mm_flow.specs.declared.search.Mark.{Mark}
use Rattle.mm_flow.specs.declared.limits.TheConstants.{UNLIMITED, MAX_CAPACITY}
use Rattle.mm_flow.specs.Graph.{Graph, arc, places, IsNetwork}
use Rattle.mm_flow.specs.Flow.{Flow, IsFlow}
use Rattle.mm_flow.specs.Cut.{Side, IsCut, leaves, enters, limit_of}
use Rattle.mm_flow.specs.Solution.{IsSolution, HasUnlimited, IsWalk, HasUnlimitedPath}
use Rattle.mm_flow.specs.Residual.{entries, tail, head, residual, spare}
use Rattle.mm_flow.specs.Balance.{IsAugmented, IsBounded}
use Rattle.mm_flow.specs.Marks.{mark, level, HasMark, IsSearched}
use Rattle.mm_base.proofs.Ranges.{All-range_with_len}
use Rattle.mm_base.proofs.RangeSums.{sum_by_range_same, sum_by_range_zeros}
use Rattle.mm_flow.proofs.Sides.{net_flow, value_within_cut, flow_out-sum_by, flow_in-sum_by, capacity_of-sum_by}
use Rattle.mm_flow.proofs.Sides.{entering-sum_by, leaving-sum_by}
use Rattle.mm_flow.proofs.Entries.{tail-forward, tail-backward, head-forward, head-backward, residual-forward}
use Rattle.mm_flow.proofs.Entries.{residual-backward}

-- the nodes that a search has marked
unfoldable pub reached_side : List Mark → Side
reached_side marks n = ltb 0 (level marks n)

-- what an unlimited arc can still carry
spare-None : (most : Option ℕ) (carried : ℕ) → most ≡ None → spare most carried ≡ UNLIMITED
spare-None None carried is = refl
spare-None (Some b) carried is = absurd (cc)

-- an arc that can carry less than an unlimited one has a capacity
spare_some : (most : Option ℕ) (carried : ℕ) → spare most carried < UNLIMITED → IsSome most
spare_some None carried small = absurd (omega arith)
spare_some (Some b) carried small = refl

-- an arc within the limit that can carry as much as an unlimited one is unlimited
spare_none : (most : Option ℕ) (carried : ℕ) → ((b : ℕ) → most ≡ Some b → b ≤ MAX_CAPACITY)
    → UNLIMITED ≤ spare most carried → most ≡ None
spare_none None carried limit large = refl
spare_none (Some b) carried limit large = absurd (omega (arith, limit b refl))

-- an arc that can carry no more carries its capacity
spare_full : (most : Option ℕ) (carried : ℕ) → ((b : ℕ) → most ≡ Some b → carried ≤ b) → spare most carried < 1
    → carried ≡ unwrap_or most 0
spare_full None carried within empty = absurd (omega arith)
spare_full (Some b) carried within empty = omega (arith, within b refl)

-- two numbers that are the same where a test passes count the same by it
cond_same : (b : Bool) (x y : ℕ) → (b ≡ true → x ≡ y) → cond b x 0 ≡ cond b y 0
cond_same true x y same = same refl
cond_same false x y same = refl

-- a number that is nothing where a test passes counts nothing by it
cond_none : (b : Bool) (x : ℕ) → (b ≡ true → x ≡ 0) → cond b x 0 ≡ 0
cond_none b x none = cond_both b x 0 (λ n. n ≡ 0) none (λ _. refl)

module _ {g : Graph} {f : Flow} {source least : ℕ} {marks : List Mark}
    (searched : IsSearched g f source least marks) where
  -- an arc from a marked node to one without a mark can carry less than the search asked for
  leaving_small : (k : ℕ) → k < length g.arcs → leaves g (reached_side marks) k ≡ true
      → spare (arc g k).capacity (f k) < least
  unfolding reached_side
  leaving_small k lt out =
      let parts = and_parts (ltb 0 (level marks (arc g k).from)) (not (ltb 0 (level marks (arc g k).to))) out in
      let inside : HasMark marks (arc g k).from = ltb-true 0 (level marks (arc g k).from) parts.0 in
      let outside = ltb-false 0 (level marks (arc g k).to) (not-true (ltb 0 (level marks (arc g k).to)) parts.1) in
      elim (cases_lt (spare (arc g k).capacity (f k)) least) [
        | inl small ↦ small
        | inr fits ↦
            let there = searched.closed (arc g k).from inside k (omega arith) (tail-forward g k lt)
            (omega (arith, residual-forward g k lt f)) in
            absurd (omega (arith, there, outside, ap (level marks) (head-forward g k lt)))
      ]

  -- an arc from a node without a mark to a marked one carries less than the search asked for
  entering_small : (k : ℕ) → k < length g.arcs → enters g (reached_side marks) k ≡ true → f k < least
  unfolding reached_side
  entering_small k lt into =
      let parts = and_parts (ltb 0 (level marks (arc g k).to)) (not (ltb 0 (level marks (arc g k).from))) into in
      let inside : HasMark marks (arc g k).to = ltb-true 0 (level marks (arc g k).to) parts.0 in
      let outside = ltb-false 0 (level marks (arc g k).from) (not-true (ltb 0 (level marks (arc g k).from)) parts.1) in
      elim (cases_lt (f k) least) [
        | inl small ↦ small
        | inr fits ↦
            let e = length g.arcs + k in
            let backward : length g.arcs ≤ e = omega arith in
            let at : e - length g.arcs ≡ k = omega arith in
            let there = searched.closed (arc g k).to inside e (omega arith)
            (tail-backward g e backward ∙ ap (λ (j : ℕ). (arc g j).to) at)
            (omega (arith, residual-backward g e backward f, ap f at)) in
            let leads = head-backward g e backward ∙ ap (λ (j : ℕ). (arc g j).from) at in
            absurd (omega (arith, there, outside, ap (level marks) leads))
      ]

  -- the marked nodes are a cut, where the sink is not among them
  reached_cut : (sink : ℕ) → ¬ HasMark marks sink → least ≤ UNLIMITED → IsCut g source sink (reached_side marks)
  unfolding reached_side
  reached_cut sink ended below = record {
    has_source = lt-ltb 0 (level marks source) searched.marking.start;
    lacks_sink = le-ltb 0 (level marks sink) (omega arith);
    limited = λ k lt out. spare_some (arc g k).capacity (f k) (omega (arith, leaving_small k lt out));
  }

module _ {g : Graph} {source sink : ℕ} {f : Flow} {value : ℕ} {marks : List Mark} (flow : IsFlow g source sink f value)
    (searched : IsSearched g f source 1 marks) (ended : ¬ HasMark marks sink) where
  -- where a search of any residual capacity does not mark the sink, the flow and the marked nodes are a solution
  pub solved_by : IsSolution g source sink f (reached_side marks) value
  solved_by =
      let side = reached_side marks in
      let cut = reached_cut searched sink ended (omega arith) in
      let full : (k : ℕ) → k < length g.arcs → cond (leaves g side k) (f k) 0 ≡ cond (leaves g side k) (limit_of g k) 0
      = λ k lt. cond_same (leaves g side k) (f k) (limit_of g k)
      (λ out. spare_full (arc g k).capacity (f k) (flow.within k) (leaving_small searched k lt out)) in
      let empty : (k : ℕ) → k < length g.arcs → cond (enters g side k) (f k) 0 ≡ 0 = λ k lt.
      cond_none (enters g side k) (f k) (λ into. omega (arith, entering_small searched k lt into)) in
      record {
        flow = flow;
        cut = cut;
        equal = omega (
          arith,
          net_flow g source sink f value side flow cut.has_source cut.lacks_sink,
          flow_out-sum_by g side f,
          flow_in-sum_by g side f,
          capacity_of-sum_by g side,
          sum_by_range_same (λ k. cond (leaves g side k) (f k) 0) (λ k. cond (leaves g side k) (limit_of g k) 0) 0
              (length g.arcs) (λ k _ lt. full k (omega arith)),
          sum_by_range_zeros (λ k. cond (enters g side k) (f k) 0) 0 (length g.arcs) (λ k _ lt. empty k (omega arith)),
        );
      }

-- a capacity within the limit
limit_small : (most : Option ℕ) → ((b : ℕ) → most ≡ Some b → b ≤ MAX_CAPACITY) → unwrap_or most 0 ≤ MAX_CAPACITY
limit_small None limit = omega arith
limit_small (Some b) limit = limit b refl

module _ {g : Graph} {source : ℕ} {nothing : Flow} {marks : List Mark} (network : IsNetwork g)
    (none : (k : ℕ) → nothing k ≡ 0) (searched : IsSearched g nothing source UNLIMITED marks) where
  -- where unlimited arcs do not lead to the sink, the nodes that they lead to bound every flow
  pub value_bounded : (sink : ℕ) → ¬ HasMark marks sink → IsBounded g source sink
  value_bounded sink ended f value flow =
      let side = reached_side marks in
      let limit = λ (k : ℕ). cond (leaves g side k) (limit_of g k) 0 in
      let each : (k : ℕ) → k < length g.arcs → limit k ≤ MAX_CAPACITY = λ k lt.
      cond_both (leaves g side k) (limit_of g k) 0 (λ n. n ≤ MAX_CAPACITY)
      (λ _. limit_small (arc g k).capacity (network.each k lt).capacity) (λ _. omega arith) in
      omega (
        arith,
        value_within_cut g source sink f value side flow (reached_cut searched sink ended (omega arith)),
        capacity_of-sum_by g side,
        sum_by-le limit MAX_CAPACITY (places g)
            (All-range_with_len (λ k. limit k ≤ MAX_CAPACITY) 0 (length g.arcs) (λ k _ lt. each k (omega arith))),
        length-range_with_len 0 (length g.arcs),
        network.arcs_within,
      )

  -- an entry that can carry as much as an unlimited arc, over a flow of nothing, is an unlimited arc
  unlimited_entry : (e : ℕ) → e < entries g → UNLIMITED ≤ residual g nothing e → HasUnlimited g (tail g e) (head g e)
  unlimited_entry e known wide = elim (cases_lt e (length g.arcs)) [
    | inl forward ↦
        let limit = (network.each e forward).capacity in (
          e,
          forward,
          sym (tail-forward g e forward),
          sym (head-forward g e forward),
          spare_none (arc g e).capacity (nothing e) limit (omega (arith, residual-forward g e forward nothing)),
        )
    | inr backward ↦ absurd (omega (arith, residual-backward g e backward nothing, none (e - length g.arcs)))
  ]

  -- a path of unlimited arcs leads to each marked node
  path_to : (d n : ℕ) → level marks n ≤ d → HasMark marks n → HasUnlimitedPath g source n
  path_to zero n small has = absurd (omega arith)
  path_to (suc d) n small has = elim (cases_eq n source) [
    | inl same ↦ (0, sym same)
    | inr ne ↦
        let reached = searched.marking.reached n ne has in
        let via = (mark marks n).via in
        let before = path_to d (tail g via) (omega (arith, reached.above)) reached.reached in
        let last = unlimited_entry via reached.known reached.fits in
        (suc before.0, (tail g via, before.1, (last.0, last.1, last.2, last.3 ∙ reached.leads, last.4)))
  ]

  -- where the search for unlimited arcs marks the sink, a path of them leads there
  pub unlimited_path : (sink : ℕ) → HasMark marks sink → HasUnlimitedPath g source sink
  unlimited_path sink has = path_to (level marks sink) sink (omega arith) has

  -- unlimited arcs lead from the source to marked nodes alone
  walk_marked : (steps n : ℕ) → IsWalk g source n steps → HasMark marks n
  walk_marked zero n walk = omega (arith, searched.marking.start, ap (level marks) walk)
  walk_marked (suc steps) n walk =
      let entry = walk.2 in
      let k = entry.0 in
      let here = walk_marked steps walk.0 walk.1 in
      let wide = spare-None (arc g k).capacity (nothing k) entry.4 in
      let there = searched.closed walk.0 here k (omega (arith, entry.1)) (tail-forward g k entry.1 ∙ entry.2)
      (omega (arith, residual-forward g k entry.1 nothing, wide)) in
      omega (arith, there, ap (level marks) (head-forward g k entry.1 ∙ entry.3))

  -- where the search for unlimited arcs does not mark the sink, no path of them leads there
  pub no_unlimited_path : (sink : ℕ) → ¬ HasMark marks sink → ¬ HasUnlimitedPath g source sink
  no_unlimited_path sink ended path = ended (walk_marked path.0 sink path.1)

-- augmentations begin with a flow of nothing
pub nothing_augmented : (g : Graph) (source sink : ℕ) (nothing : Flow) → ((k : ℕ) → nothing k ≡ 0)
    → IsAugmented g source sink nothing 0
nothing_augmented g source sink nothing none = record {
  within = λ k most is. omega (arith, none k);
  balanced = λ n.
      let into = sum_by_range_zeros (λ k. cond (eqb (arc g k).to n) (nothing k) 0) 0 (length g.arcs)
      (λ k _ _. cond_none (eqb (arc g k).to n) (nothing k) (λ _. none k)) in
      let out = sum_by_range_zeros (λ k. cond (eqb (arc g k).from n) (nothing k) 0) 0 (length g.arcs)
      (λ k _ _. cond_none (eqb (arc g k).from n) (nothing k) (λ _. none k)) in
      let from = cond_none (eqb source n) 0 (λ _. refl) in
      let to = cond_none (eqb sink n) 0 (λ _. refl) in
      omega (arith, entering-sum_by g nothing n, leaving-sum_by g nothing n, into, out, from, to);
  most = λ k. omega (arith, none k);
}
