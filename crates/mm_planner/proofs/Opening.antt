-- The arcs of the stores are opened one store after another, and what a flow brings to those whose arcs are open does
-- not become less.
use Rattle.std.proofs.Common.{◌≡◌, ℕ, ◌+◌, ◌-◌, ◌<◌, ◌≤◌, Bool, cond, eqb, ltb, Option, Some, None, List, []}
use Rattle.std.proofs.Common.{◌∷◌, ◌++◌, length, slice_index, sym, ap, ◌∙◌, subst, inl, inr, arith}
use Rattle.std.proofs.Common.{length-append}
use Rattle.std.specs.Prelude.{filter, is_some, slice_index_or}
use Rattle.std.specs.List.{sum_by}
use Rattle.std.proofs.lemmas.Bool.{cases_Bool, cases_lt, cond-true, cond-false, eqb-true, lt-ltb, le-ltb, false≢true}
use Rattle.std.proofs.lemmas.Int.{ints}
use Rattle.std.proofs.lemmas.List.{get_or_past, get_or_append_left, get_or_push}
use Rattle.mm_base.proofs.Grids.{term-le-grid}
use Rattle.mm_base.proofs.RangeSums.{sum_by_range-le, sum_by_range_zeros, term-le-sum_by_range}
use Rattle.mm_base.proofs.Sums.{sum_by-filter}
use Rattle.mm_problem.specs.Dumping.{Dumping, IsDumping}
use Rattle.mm_plan.specs.Volumes.{Amounts, lost, store_loss}
use Rattle.mm_plan.specs.Fit.{Fits}
use Rattle.mm_plan.specs.Table.{Table, amount}
use Rattle.mm_plan.specs.declared.certificate.Cut.{Cut}
use Rattle.mm_cut.specs.Cuts as Cuts
use Rattle.mm_cut.proofs.Duality.{first_cuts_bound_losses}
use Rattle.mm_flow.specs.declared.arc.Arc.{Arc}
use Rattle.mm_flow.specs.Graph.{Graph, no_arc, arc, places}
use Rattle.mm_flow.specs.Flow.{Flow, IsWithin, IsFlow, entering, leaving}
use Rattle.mm_flow.specs.Balance.{IsAugmented, IsBegun, KeepsSource}
use Rattle.mm_flow.specs.Solution.{IsSolved, side_of}
use Rattle.mm_flow.specs.declared.solved.Solved.{Solved}
use Rattle.mm_planner.specs.declared.nodes.TheConstants.{SOURCE, SINK}
use Rattle.mm_planner.specs.Network.{Inflows, inflow, first_inflow, net_by, net}
use Rattle.mm_planner.specs.Runs.{first_stretches, first_counts}
use Rattle.mm_planner.specs.Taken.{AreTaken}
use Rattle.mm_planner.specs.Opening.{brought, IsCovered, IsBegunBy, IsOpened, AreOpened}
use Rattle.mm_planner.specs.InOrder.{CutShows, AllShow}
use Rattle.mm_planner.proofs.ArcSums.{arcs_by_kind}
use Rattle.mm_planner.proofs.ArcLists.{length-arcs_of, net_all}
use Rattle.mm_planner.proofs.KindSums.{come}
use Rattle.mm_planner.proofs.Capacities.{over, over_none, come_within}
use Rattle.mm_planner.proofs.Conserved.{come_is_value}
use Rattle.mm_planner.proofs.FromFlow.{first_loss_within}
use Rattle.mm_planner.proofs.FromSide.{are_stretches, are_counted, of_first, inflow_within}
use Rattle.mm_planner.proofs.Wider.{grid-narrow, grid-le}

-- ---- more comes

module _ (q : Dumping) (a b : Inflows) (more : (t s : ℕ) → a t s ≤ b t s) (f : Flow) where
  -- what arcs carry over their capacities, of which there is nothing within these
  over_sum : IsWithin (net_by q a) f → sum_by (λ k. over (arc (net_by q b) k).capacity (f k)) (places (net_by q b)) ≡ 0
  over_sum within =
      let none = sum_by_range_zeros (λ k. over (arc (net_by q a) k).capacity (f k)) 0 (length (net_by q a).arcs)
      (λ k _ _. over_none (arc (net_by q a) k).capacity (f k) (within k)) in
      omega (
        arith,
        none,
        arcs_by_kind q a (λ k (arc : Arc). over arc.capacity (f k)),
        arcs_by_kind q b (λ k (arc : Arc). over arc.capacity (f k)),
        grid-le (λ t s. come q f t s - b t s) (λ t s. come q f t s - a t s) (length q.windows) (length q.rows)
            (λ t s _ _ _. omega (arith, more t s)),
      )

  -- an arc that carries nothing over its capacity carries at most that
  within_limit : (o : Option ℕ) (n most : ℕ) → over o n ≡ 0 → o ≡ Some most → n ≤ most
  within_limit o n most none is =
      let value : over o n ≡ n - most = ap (λ p. over p n) is in
      omega (arith, none, value)

  -- a flow within the capacities stays within them
  within_more : IsWithin (net_by q a) f → IsWithin (net_by q b) f
  within_more within k most is = elim (cases_lt k (length (net_by q b).arcs)) [
    | inl inside ↦
        let term = term-le-sum_by_range (λ j. over (arc (net_by q b) j).capacity (f j)) 0 (length (net_by q b).arcs) k
        (omega arith) (omega (arith, inside)) in
        within_limit (arc (net_by q b) k).capacity (f k) most (omega (arith, over_sum within, term)) is
    | inr past ↦ absurd (no_limit most
        (sym (ap (λ (x : Arc). x.capacity) (get_or_past (net_by q b).arcs k no_arc past)) ∙ is))
  ]
    where
      -- past the last arc there is no limit
      no_limit : (n : ℕ) → (let o : Option ℕ = None in o) ≡ Some n → ⊥
      no_limit n same = absurd (false≢true (ap (λ (o : Option ℕ). is_some o) same))

  -- what arcs carry that are chosen by their ends is what it was
  chosen_same : (at : ℕ → ℕ → Bool)
      → sum_by f (filter (λ k. at (arc (net_by q b) k).from (arc (net_by q b) k).to) (places (net_by q b))) ≡ sum_by f
      (filter (λ k. at (arc (net_by q a) k).from (arc (net_by q a) k).to) (places (net_by q a)))
  chosen_same at =
      omega (
        arith,
        sum_by-filter f (λ k. at (arc (net_by q a) k).from (arc (net_by q a) k).to) (places (net_by q a)),
        sum_by-filter f (λ k. at (arc (net_by q b) k).from (arc (net_by q b) k).to) (places (net_by q b)),
        arcs_by_kind q a (λ k (arc : Arc). cond (at arc.from arc.to) (f k) 0),
        arcs_by_kind q b (λ k (arc : Arc). cond (at arc.from arc.to) (f k) 0),
      )

  -- the same for what enters a node, and for what leaves it
  entering_same : (n : ℕ) → entering (net_by q b) f n ≡ entering (net_by q a) f n
  unfolding entering
  entering_same n = chosen_same (λ _ to. eqb to n)

  leaving_same : (n : ℕ) → leaving (net_by q b) f n ≡ leaving (net_by q a) f n
  unfolding leaving
  leaving_same n = chosen_same (λ from _. eqb from n)

  -- a solver can continue from the flow
  augmented_more : (value : ℕ) → IsAugmented (net_by q a) SOURCE SINK f value
      → IsAugmented (net_by q b) SOURCE SINK f value
  augmented_more value augmented = record {
    within = within_more augmented.within;
    balanced = λ n. omega (arith, augmented.balanced n, entering_same n, leaving_same n);
    most = augmented.most;
  }

-- the same of a flow in a table
begun_more : (q : Dumping) (a b : Inflows) (s : Solved) → ((t r : ℕ) → a t r ≤ b t r)
    → IsBegun (net_by q a) SOURCE SINK s → IsBegun (net_by q b) SOURCE SINK s
begun_more q a b s more begun = record {
  arcs = omega (arith, begun.arcs, length-arcs_of q a (length q.windows), length-arcs_of q b (length q.windows));
  augmented = augmented_more q a b more (slice_index s.flow.items) s.value begun.augmented;
}

-- where one store more is open no less comes
first_more : (k n : ℕ) (q : Dumping) → k ≤ n → (t s : ℕ) → first_inflow k q t s ≤ first_inflow n q t s
first_more k n q few t s = elim (cases_lt s k) [
  | inl among ↦ omega (
    arith,
    cond-true (ltb s k) (inflow q t s) 0 (lt-ltb s k among),
    cond-true (ltb s n) (inflow q t s) 0 (lt-ltb s n (omega arith)),
  )
  | inr past ↦ omega (arith, cond-false (ltb s k) (inflow q t s) 0 (le-ltb s k past))
]

-- a solver can continue from a flow if no other arcs are open
pub begun_on : (k : ℕ) (q : Dumping) (s : Solved) → IsBegunBy k q s
    → IsBegun (net_by q (first_inflow k q)) SOURCE SINK s
begun_on k q s by = begun_more q (first_inflow by.stores q) (first_inflow k q) s (first_more by.stores k q by.few)
    by.begun

-- ---- what is brought does not become less

module _ (q : Dumping) (a : Inflows) (old new : Flow) (kept : KeepsSource (net_by q a) SOURCE old new) where
  -- by how much an arc from the source carries less
  fallen : Bool → ℕ → ℕ → ℕ
  fallen b n m = cond b (n - m) 0

  -- by nothing
  none_fallen : sum_by (λ k. fallen (eqb (arc (net_by q a) k).from SOURCE) (old k) (new k)) (places (net_by q a)) ≡ 0
  unfolding fallen
  none_fallen =
      sum_by_range_zeros (λ k. cond (eqb (arc (net_by q a) k).from SOURCE) (old k - new k) 0) 0
      (length (net_by q a).arcs)
      (λ k _ _. elim (cases_Bool (eqb (arc (net_by q a) k).from SOURCE)) [
        | inl from ↦ omega (
          arith,
          cond-true (eqb (arc (net_by q a) k).from SOURCE) (old k - new k) 0 from,
          kept k (eqb-true (arc (net_by q a) k).from SOURCE from),
        )
        | inr other ↦ cond-false (eqb (arc (net_by q a) k).from SOURCE) (old k - new k) 0 other
      ])

  -- no less is brought to a store
  brought_more : (t s : ℕ) → 1 ≤ t → t ≤ length q.windows → s < length q.rows → brought q old t s ≤ brought q new t s
  unfolding fallen
  brought_more t s first last below =
      omega (
        arith,
        none_fallen,
        arcs_by_kind q a (λ k (arc : Arc). cond (eqb arc.from SOURCE) (old k - new k) 0),
        term-le-grid (λ u r. come q old u r - come q new u r) (length q.windows) (length q.rows) t s first last below,
      )

-- a cut of the first stores covers a later flow too
pub covered_more : (k : ℕ) (q : Dumping) (a : Inflows) (old new : Flow) (c : Cut) → k ≤ length q.rows
    → KeepsSource (net_by q a) SOURCE old new → IsCovered k q old c → IsCovered k q new c
covered_more k q a old new c few kept covered = record {
  cut = covered.cut;
  covers = omega (
    arith,
    covered.covers,
    grid-le (brought q old) (brought q new) (length q.windows) k
        (λ t s first last below. brought_more q a old new kept t s first last (omega (arith, few))),
  );
}

-- ---- the cut of a solution

module _ (q : Dumping) (is : IsDumping q) (k : ℕ) (few : k ≤ length q.rows) (s : Solved)
    (solved : IsSolved (net_by q (first_inflow k q)) SOURCE SINK s) where
  -- what the solution's flow carries
  abbrev flow : Flow
  flow = slice_index s.flow.items

  -- what comes to the first stores is what comes
  as_comes : (t r : ℕ) → r < k → first_inflow k q t r ≡ inflow q t r
  as_comes t r below = cond-true (ltb r k) (inflow q t r) 0 (lt-ltb r k below)

  -- nothing is brought to the others
  none_brought : (t r : ℕ) → 1 ≤ t → t ≤ length q.windows → r < length q.rows → k ≤ r → come q flow t r ≡ 0
  none_brought t r first last below past =
      omega (
        arith,
        come_within q (first_inflow k q) flow solved.solution.flow.within t r first last below,
        cond-false (ltb r k) (inflow q t r) 0 (le-ltb r k past),
      )

  -- the cut of the solution's side covers the first stores
  pub covered : (c : Cut) → c.stretches.items ≡ first_stretches k q (side_of s.side.items)
      → c.by_channels.items ≡ first_counts k q (side_of s.side.items) → IsCovered k q flow c
  covered c stretches by_channels =
      let a = first_inflow k q in
      let side = side_of s.side.items in
      let cut = solved.solution.cut in
      let of_side : Cuts.IsFirstCut k q (first_stretches k q side) (first_counts k q side) = record {
        cut = record {
          stretches = are_stretches q is k few a as_comes side cut;
          counted = are_counted q is k few a as_comes side cut;
        };
        first = of_first q is k few a as_comes side cut;
      } in
      record {
        cut = rw (stretches, by_channels) of_side;
        covers = rw (stretches, by_channels) (omega (
          arith,
          inflow_within q is k few a as_comes side cut,
          solved.solution.equal,
          come_is_value q a is flow s.value solved.solution.flow,
          grid-narrow (come q flow) (length q.windows) k (length q.rows) few none_brought,
        ));
      }

-- ---- the plan

module _ (q : Dumping) (is : IsDumping q) (f : Flow) (value : ℕ) (x : Amounts) (y : Table)
    (flow : IsFlow (net q) SOURCE SINK f value) (taken : AreTaken q f x)
    (fits_y : Fits q (amount y))
    (no_worse : (s t : ℕ) → s < length q.rows → 1 ≤ t → t ≤ length q.windows
    → lost q (amount y) s t ≤ lost q x s t) where
  -- a cut of the first stores that covers them shows what they lose by the plan that the flow says, and by one that is
  -- nowhere worse
  cut_shows : (k : ℕ) (c : Cut) → k ≤ length q.rows → IsCovered k q f c → CutShows k q y c
  cut_shows k c few covered =
      let within = first_loss_within q is f value flow x taken k few in
      let no_more = sum_by_range-le (store_loss q (amount y)) (store_loss q x) 0 k
      (λ s _ below. sum_by_range-le (lost q (amount y) s) (lost q x s) 1 (length q.windows)
      (λ t low high. no_worse s t (omega (arith, few)) low (omega arith))) in
      let bounds = first_cuts_bound_losses k q (amount y) c.stretches.items c.by_channels.items fits_y covered.cut in
      record { cut = covered.cut; bound = omega (arith, ints, bounds, within, no_more, covered.covers) }

  -- so do the cuts at each of the first stores, and the cut once the arcs of all are open
  pub all_show : (k : ℕ) (old new : Solved) (cuts : List Cut) (c : Cut) → k ≤ length q.rows → AreOpened k q old cuts
      → IsOpened (length q.rows) q old new c → f ≡ slice_index new.flow.items → AllShow q y c cuts
  all_show k old new cuts c few opened last same = record {
    all = cut_shows (length q.rows) c (omega arith)
        (subst (λ (g : Flow). IsCovered (length q.rows) q g c) (sym same) last.covered);
    each = λ j d below.
        let within : j < k = omega (arith, opened.count, below) in
        let cut = slice_index_or cuts j d in
        let now = covered_more (j + 1) q (first_inflow (length q.rows) q) (slice_index old.flow.items)
        (slice_index new.flow.items) cut (omega (arith, few)) last.continued.kept (opened.each j d within) in
        cut_shows (j + 1) cut (omega (arith, few)) (subst (λ (g : Flow). IsCovered (j + 1) q g cut) (sym same) now);
  }

-- ---- one store after another

-- once the arcs of one store more are open
pub opened_more : (k : ℕ) (q : Dumping) (s next : Solved) (cuts more : List Cut) (c : Cut) → k + 1 ≤ length q.rows
    → AreOpened k q s cuts → IsOpened (k + 1) q s next c → more ≡ cuts ++ c ∷ [] → AreOpened (k + 1) q next more
opened_more k q s next cuts more c few opened last added = record {
  begun = last.continued.begun;
  count = omega (arith, ap length added, length-append cuts (c ∷ []), opened.count);
  each = λ j d below. elim (cases_lt j k) [
    | inl earlier ↦
        let same : slice_index_or more j d ≡ slice_index_or cuts j d = ap (λ (xs : List Cut). slice_index_or xs j d)
        added ∙ get_or_append_left cuts (c ∷ []) d j (omega (arith, opened.count)) in
        rw same (covered_more (j + 1) q (first_inflow (k + 1) q) (slice_index s.flow.items)
        (slice_index next.flow.items) (slice_index_or cuts j d) (omega arith) last.continued.kept
        (opened.each j d earlier))
    | inr past ↦
        let at : j ≡ k = omega arith in
        let same : slice_index_or more j d ≡ c = ap (λ (xs : List Cut). slice_index_or xs j d) added
        ∙ get_or_push cuts c d j (omega (arith, opened.count)) in
        rw (same, at) last.covered
  ];
}

-- once all are open the flow is one of the problem's network
pub all_solved : (q : Dumping) {s : Solved} (n : ℕ) → n ≡ length q.rows
    → IsSolved (net_by q (first_inflow n q)) SOURCE SINK s → IsSolved (net q) SOURCE SINK s
all_solved q {s} n all solved =
    subst (λ (g : Graph). IsSolved g SOURCE SINK s) (net_all q)
    (subst (λ k. IsSolved (net_by q (first_inflow k q)) SOURCE SINK s) all solved)
