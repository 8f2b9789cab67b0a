-- No unlimited arc leaves the source of a problem's network.
use Rattle.std.proofs.Common.{◌≡◌, ℕ, zero, suc, cond, eqb, Option, length, refl, ap, ◌∙◌, arith}
use Rattle.std.specs.Prelude.{is_some}
use Rattle.std.specs.List.{sum_by}
use Rattle.mm_base.proofs.Grids.{grid_zeros}
use Rattle.mm_base.proofs.RangeSums.{sum_by_range_zeros, term-le-sum_by_range}
use Rattle.mm_base.proofs.Tests.{cond-eqb_other, cond-eqb_same}
use Rattle.mm_problem.specs.Dumping.{Dumping}
use Rattle.mm_flow.specs.declared.arc.Arc.{Arc}
use Rattle.mm_flow.specs.Graph.{arc, places}
use Rattle.mm_flow.specs.Solution.{HasUnlimited, IsWalk, HasUnlimitedPath}
use Rattle.mm_planner.specs.declared.nodes.TheConstants.{SOURCE, SINK}
use Rattle.mm_planner.specs.declared.nodes.Node.TheVariants.{In, Out, Channel, Pass}
use Rattle.mm_planner.specs.declared.way.Way.TheVariants.{Come, Hold, Keep, Take}
use Rattle.mm_planner.specs.Nodes.{number_of}
use Rattle.mm_planner.specs.Network.{dump_node, Inflows, store_arc, limit_arc, window_arc, net_by}
use Rattle.mm_planner.specs.Taken.{take_place}
use Rattle.mm_planner.proofs.Dumps.{dump_not_source}
use Rattle.mm_planner.proofs.ArcSums.{come_place, hold_place, keep_place, limit_place, window_place, kind_sum, arcs_by_kind}

-- whether an arc has no limit, as a number
no_limit : Option ℕ → ℕ
no_limit o = cond (is_some o) 0 1

-- whether it leaves the source, besides
unlimited_from_source : ℕ → Arc → ℕ
unlimited_from_source k arc = cond (eqb arc.from SOURCE) (no_limit arc.capacity) 0

-- no arc from the source is unlimited
none_from_source : (q : Dumping) (a : Inflows) → sum_by (λ k. unlimited_from_source k (arc (net_by q a) k)) (places (net_by q a)) ≡ 0
unfolding unlimited_from_source no_limit
none_from_source q a =
    let F = unlimited_from_source in
    let m = length q.windows in
    let r = length q.rows in
    omega (
      arith,
      arcs_by_kind q a F,
      grid_zeros (kind_sum F (come_place q) (store_arc q a Come)) m r (λ t s _ _ _. refl),
      grid_zeros (kind_sum F (hold_place q) (store_arc q a Hold)) m r (λ t s low _ _. cond-eqb_other (number_of (In t s)) SOURCE 0 (λ same. omega arith)),
      grid_zeros (kind_sum F (keep_place q) (store_arc q a Keep)) m r (λ t s low _ _. cond-eqb_other (number_of (Out t s)) SOURCE 1 (λ same. omega arith)),
      grid_zeros (kind_sum F (take_place q) (store_arc q a Take)) m r (λ t s low _ _. cond-eqb_other (number_of (dump_node q.come t s)) SOURCE 1 (dump_not_source q.come t s low)),
      grid_zeros (kind_sum F (limit_place q) (limit_arc q)) m (length q.limits) (λ t c low _ _. cond-eqb_other (number_of (Channel t c)) SOURCE _ (λ same. omega arith)),
      sum_by_range_zeros (λ t. F (window_place q t) (window_arc q t)) 1 m (λ t low _. cond-eqb_other (number_of (Pass t)) SOURCE 0 (λ same. omega arith)),
    )

-- so none leads anywhere
none_leaves : (q : Dumping) (a : Inflows) (to : ℕ) → ¬ HasUnlimited (net_by q a) SOURCE to
unfolding unlimited_from_source no_limit
none_leaves q a to has =
    let k = has.0 in
    let here = arc (net_by q a) k in
    let term = term-le-sum_by_range (λ j. unlimited_from_source j (arc (net_by q a) j)) 0 (length (net_by q a).arcs) k (omega arith) (omega (arith, has.1)) in
    let one : unlimited_from_source k here ≡ 1 = cond-eqb_same here.from SOURCE (no_limit here.capacity) has.2 ∙ ap no_limit has.4 in
    omega (arith, none_from_source q a, term, one)

-- a walk of unlimited arcs from the source stays there
stays_at_source : (q : Dumping) (a : Inflows) (n to : ℕ) → IsWalk (net_by q a) SOURCE to n → SOURCE ≡ to
stays_at_source q a zero to walk = walk
stays_at_source q a (suc n) to walk =
    let here = stays_at_source q a n walk.0 walk.1 in
    absurd (none_leaves q a to (rw (← here) at walk.2))

-- no path of unlimited arcs leads from the source to the sink
pub no_unlimited_path : (q : Dumping) (a : Inflows) → ¬ HasUnlimitedPath (net_by q a) SOURCE SINK
no_unlimited_path q a path =
    let same = stays_at_source q a path.0 SINK path.1 in
    omega (arith, same)
