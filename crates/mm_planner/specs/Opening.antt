-- The arcs of the stores are opened one store after another.
use Rattle.std.specs.Prelude.{◌≡◌, ℕ, ◌+◌, ◌<◌, ◌≤◌, List, length, slice_index, slice_index_or}
use Rattle.std.specs.List.{sum_by, range_with_len}
use Rattle.mm_problem.specs.Dumping.{Dumping, steps}
use Rattle.mm_flow.specs.Flow.{Flow}
use Rattle.mm_flow.specs.Balance.{IsBegun}
use Rattle.mm_flow.specs.Solution.{Continues}
use Rattle.mm_flow.specs.declared.solved.Solved.{Solved}
use Rattle.mm_plan.specs.declared.certificate.Cut.{Cut}
use Rattle.mm_cut.specs.Cuts.{IsFirstCut, coming_sum, held_sum, leaving_sum}
use Rattle.mm_planner.specs.declared.nodes.TheConstants.{SOURCE, SINK}
use Rattle.mm_planner.specs.Network.{Inflows, inflow, first_inflow, net_by}
use Rattle.mm_planner.specs.Taken.{first_arc}

-- the inflow of each store by a flow
abbrev pub brought : Dumping → Flow → Inflows
brought q f t s = f (first_arc q t + s)

-- the inflow of the first stores over all steps
abbrev pub first_sum : ℕ → Dumping → Inflows → ℕ
first_sum k q a = sum_by (λ t. sum_by (a t) (range_with_len 0 k)) (steps q)

-- the blocks that arrive in the first stores and are not in the flow are at most the bound of a cut of these stores
pub record IsCovered (k : ℕ) (q : Dumping) (f : Flow) (c : Cut) : Type 0 where
  pub cut : IsFirstCut k q c.stretches.items c.by_channels.items
  pub covers : first_sum k q
      (inflow q) + (held_sum q c.stretches.items + leaving_sum q c.stretches.items c.by_channels.items) ≤ coming_sum q
      c.stretches.items + first_sum k q (brought q f)

-- a flow with the arcs of at most this number of the first stores open
pub record IsBegunBy (k : ℕ) (q : Dumping) (s : Solved) : Type 0 where
  pub stores : ℕ
  pub few : stores ≤ k
  pub begun : IsBegun (net_by q (first_inflow stores q)) SOURCE SINK s

-- a maximum flow with the arcs of the first stores open, which continues from an earlier one, and a cut that covers
-- these stores
pub record IsOpened (k : ℕ) (q : Dumping) (old new : Solved) (c : Cut) : Type 0 where
  pub continued : Continues (net_by q (first_inflow k q)) SOURCE SINK old new
  pub covered : IsCovered k q (slice_index new.flow.items) c

-- for the first store, the first two and so on, up to this number, there is such a cut, and no other store's arcs are
-- open
pub record AreOpened (k : ℕ) (q : Dumping) (s : Solved) (cuts : List Cut) : Type 0 where
  pub begun : IsBegun (net_by q (first_inflow k q)) SOURCE SINK s
  pub count : length cuts ≡ k
  pub each : (j : ℕ) (c : Cut) → j < k → IsCovered (j + 1) q (slice_index s.flow.items) (slice_index_or cuts j c)
