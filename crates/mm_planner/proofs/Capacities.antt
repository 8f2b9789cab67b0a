-- What the capacities of the arcs of each kind say of a flow and of a side.
use Rattle.std.proofs.Common.{◌≡◌, ℕ, ◌+◌, ◌-◌, ◌<◌, ◌≤◌, Bool, true, false, cond, not, ◌&&◌, Option, Some, None, length, refl, sym, ap, arith}
use Rattle.std.specs.Prelude.{is_some, unwrap_or, IsSome}
use Rattle.std.specs.List.{sum_by, range_with_len}
use Rattle.std.proofs.lemmas.Bool.{false≢true}
use Rattle.mm_base.proofs.Grids.{grid, grid-same, grid_zeros, term-le-grid}
use Rattle.mm_base.proofs.RangeSums.{sum_by_range_same, sum_by_range_zeros, term-le-sum_by_range}
use Rattle.mm_base.proofs.Sums.{sum_by-filter}
use Rattle.mm_problem.specs.Dumping.{Dumping, size, channel, limit, window}
use Rattle.mm_cut.specs.Cuts.{limit_or_0}
use Rattle.mm_flow.specs.declared.arc.Arc.{Arc}
use Rattle.mm_flow.specs.Graph.{arc, places}
use Rattle.mm_flow.specs.Flow.{Flow, IsWithin}
use Rattle.mm_flow.specs.Cut.{Side, leaves, limit_of, capacity_of, IsCut}
use Rattle.mm_planner.specs.declared.nodes.TheConstants.{SOURCE, SINK}
use Rattle.mm_planner.specs.declared.nodes.Node.TheVariants.{In, Out, Channel, Pass}
use Rattle.mm_planner.specs.declared.way.Way.TheVariants.{Come, Keep, Take}
use Rattle.mm_planner.specs.Network.{Inflows, next_node, dump_node, window_arc, net_by, store_arc}
use Rattle.mm_planner.specs.Runs.{is_on}
use Rattle.mm_planner.proofs.ArcSums.{come_place, keep_place, window_place, kind_sum, arcs_by_kind}
use Rattle.mm_planner.proofs.KindSums.{come, hold, pass_on, send}
use Rattle.mm_planner.specs.Taken.{take_place}

-- how much more than its capacity an arc carries
abbrev pub over : Option ℕ → ℕ → ℕ
over None n = 0
over (Some most) n = n - most

-- within its capacity, an arc carries nothing more
pub over_none : (o : Option ℕ) (n : ℕ) → ((most : ℕ) → o ≡ Some most → n ≤ most) → over o n ≡ 0
over_none None n within = refl
over_none (Some most) n within = omega (arith, within most refl)

module _ (q : Dumping) (a : Inflows) (f : Flow) (within : IsWithin (net_by q a) f) where
  -- how much more than its capacity the arc with a number carries
  excess : ℕ → Arc → ℕ
  excess k arc = over arc.capacity (f k)

  -- a flow within all capacities carries nothing more
  excess_none : sum_by (λ k. excess k (arc (net_by q a) k)) (places (net_by q a)) ≡ 0
  unfolding excess
  excess_none = sum_by_range_zeros (λ k. over (arc (net_by q a) k).capacity (f k)) 0 (length (net_by q a).arcs) (λ k _ _. over_none (arc (net_by q a) k).capacity (f k) (within k))

  -- no more comes to a store than its inflow
  pub come_within : (t s : ℕ) → 1 ≤ t → t ≤ length q.windows → s < length q.rows → come q f t s ≤ a t s
  unfolding excess
  come_within t s first last below =
      omega (arith, excess_none, arcs_by_kind q a (λ k (arc : Arc). over arc.capacity (f k)), term-le-grid (λ u k. come q f u k - a u k) (length q.windows) (length q.rows) t s first last below)

  -- a store holds no more than its size
  pub hold_within : (t s : ℕ) → 1 ≤ t → t ≤ length q.windows → s < length q.rows → hold q f t s ≤ size q s t
  unfolding excess
  hold_within t s first last below =
      omega (arith, excess_none, arcs_by_kind q a (λ k (arc : Arc). over arc.capacity (f k)), term-le-grid (λ u k. hold q f u k - size q k u) (length q.windows) (length q.rows) t s first last below)

  -- how much more than a limit
  over_value : (o : Option ℕ) (n most : ℕ) → o ≡ Some most → over o n ≡ n - most
  over_value o n most e = ap (λ p. over p n) e

  -- no more passes a channel than its limit
  pub pass_on_within : (t c most : ℕ) → 1 ≤ t → t ≤ length q.windows → c < length q.limits → limit q c t ≡ Some most → pass_on q f t c ≤ most
  unfolding excess
  pass_on_within t c most first last below limited =
      omega (arith, excess_none, arcs_by_kind q a (λ k (arc : Arc). over arc.capacity (f k)), over_value (limit q c t) (pass_on q f t c) most limited, term-le-grid (λ u k. over (limit q k u) (pass_on q f u k)) (length q.windows) (length q.limits) t c first last below)

  -- no more is sent than the window
  pub send_within : (t : ℕ) → 1 ≤ t → t ≤ length q.windows → send q f t ≤ window q t
  unfolding excess
  send_within t first last =
      omega (arith, excess_none, arcs_by_kind q a (λ k (arc : Arc). over arc.capacity (f k)), term-le-sum_by_range (λ u. send q f u - window q u) 1 (length q.windows) t first (omega arith))

-- whether an arc leaves a side
abbrev leads_out : Side → Arc → Bool
leads_out side a = side a.from && not (side a.to)

-- the capacity of a side, kind by kind
pub capacity_kinds : (q : Dumping) (a : Inflows) (side : Side) → side SOURCE ≡ true → side SINK ≡ false → capacity_of (net_by q a) side ≡ grid (λ t s. cond (is_on side (In t s)) 0 (a t s)) (length q.windows) (length q.rows) + grid (λ t s. cond (is_on side (In t s) && not (is_on side (Out t s))) (size q s t) 0) (length q.windows) (length q.rows) + grid (λ t c. cond (is_on side (Channel t c) && not (is_on side (Pass t))) (limit_or_0 q t c) 0) (length q.windows) (length q.limits) + sum_by (λ t. cond (is_on side (Pass t)) (window q t) 0) (range_with_len 1 (length q.windows))
unfolding capacity_of
capacity_kinds q a side at_source at_sink =
    let F : ℕ → Arc → ℕ = λ k arc. cond (leads_out side arc) (unwrap_or arc.capacity 0) 0 in
    let m = length q.windows in
    let r = length q.rows in
    let all = sum_by-filter (limit_of (net_by q a)) (leaves (net_by q a) side) (places (net_by q a)) in
    let comes = grid-same (kind_sum F (come_place q) (store_arc q a Come)) (λ t s. cond (is_on side (In t s)) 0 (a t s)) m r (λ t s _ _ _. from_inside (side SOURCE) (is_on side (In t s)) (a t s) at_source) in
    let keeps = grid_zeros (kind_sum F (keep_place q) (store_arc q a Keep)) m r (λ t s _ _ _. nothing (leads_out side (store_arc q a Keep t s))) in
    let takes = grid_zeros (kind_sum F (take_place q) (store_arc q a Take)) m r (λ t s _ _ _. nothing (leads_out side (store_arc q a Take t s))) in
    let sends = sum_by_range_same (λ t. F (window_place q t) (window_arc q t)) (λ t. cond (is_on side (Pass t)) (window q t) 0) 1 m (λ t _ _. to_outside (is_on side (Pass t)) (side SINK) (window q t) at_sink) in
    omega (arith, all, arcs_by_kind q a F, comes, keeps, takes, sends)
  where
    -- an arc from the side leads out where its end is off the side
    from_inside : (a b : Bool) (n : ℕ) → a ≡ true → cond (a && not b) n 0 ≡ cond b 0 n
    from_inside true true n e = refl
    from_inside true false n e = refl
    from_inside false b n e = absurd (false≢true e)

    -- an arc to a node off the side leads out where it begins on the side
    to_outside : (a b : Bool) (n : ℕ) → b ≡ false → cond (a && not b) n 0 ≡ cond a n 0
    to_outside true false n e = refl
    to_outside false false n e = refl
    to_outside a true n e = absurd (false≢true (sym e))

    -- an unlimited arc adds no capacity
    nothing : (b : Bool) → cond {A = ℕ} b 0 0 ≡ 0
    nothing true = refl
    nothing false = refl

module _ (q : Dumping) (a : Inflows) (side : Side) (cut : IsCut (net_by q a) SOURCE SINK side) where
  -- whether an unlimited arc leaves the side, as a number
  unlimited_out : ℕ → Arc → ℕ
  unlimited_out k arc = cond {A = ℕ} (leads_out side arc) (cond {A = ℕ} (is_some arc.capacity) 0 1) 0

  -- a limited arc counts nothing
  one_out : (b c : Bool) → (b ≡ true → c ≡ true) → cond {A = ℕ} b (cond {A = ℕ} c 0 1) 0 ≡ 0
  one_out true true limited = refl
  one_out true false limited = absurd (false≢true (limited refl))
  one_out false c limited = refl

  -- no unlimited arc leaves the side of a cut
  unlimited_none : sum_by (λ k. unlimited_out k (arc (net_by q a) k)) (places (net_by q a)) ≡ 0
  unfolding unlimited_out
  unlimited_none = sum_by_range_zeros (λ k. unlimited_out k (arc (net_by q a) k)) 0 (length (net_by q a).arcs) (λ k _ below. one_out (leaves (net_by q a) side k) (is_some (arc (net_by q a) k).capacity) (cut.limited k (omega arith)))

  -- an arc that does not lead out ends where it begins
  stays : (a b : Bool) → cond {A = ℕ} (a && not b) 1 0 ≡ 0 → a ≡ true → b ≡ true
  stays true true none inside = refl
  stays true false none inside = absurd (omega (arith, none))
  stays false b none inside = absurd (false≢true inside)

  -- where a store's blocks are kept is on the side where what it holds is
  pub keep_inside : (t s : ℕ) → 1 ≤ t → t ≤ length q.windows → s < length q.rows → is_on side (Out t s) ≡ true → is_on side (next_node q t s) ≡ true
  unfolding unlimited_out
  keep_inside t s first last below inside =
      stays (is_on side (Out t s)) (is_on side (next_node q t s))
      (omega (arith, unlimited_none, arcs_by_kind q a unlimited_out, term-le-grid (λ u k. cond {A = ℕ} (is_on side (Out u k) && not (is_on side (next_node q u k))) 1 0) (length q.windows) (length q.rows) t s first last below))
      inside

  -- so is its channel
  pub take_inside : (t s : ℕ) → 1 ≤ t → t ≤ length q.windows → s < length q.rows → is_on side (dump_node q.come t s) ≡ true → is_on side (Channel t (channel q s)) ≡ true
  unfolding unlimited_out
  take_inside t s first last below inside =
      stays (is_on side (dump_node q.come t s)) (is_on side (Channel t (channel q s)))
      (omega (arith, unlimited_none, arcs_by_kind q a unlimited_out, term-le-grid (λ u k. cond {A = ℕ} (is_on side (dump_node q.come u k) && not (is_on side (Channel u (channel q k)))) 1 0) (length q.windows) (length q.rows) t s first last below))
      inside

  -- an arc that leads out is limited
  has_limit : (a b c : Bool) → cond {A = ℕ} (a && not b) (cond {A = ℕ} c 0 1) 0 ≡ 0 → a ≡ true → b ≡ false → c ≡ true
  has_limit true false true none inside outside = refl
  has_limit true false false none inside outside = absurd (omega (arith, none))
  has_limit true true c none inside outside = absurd (false≢true (sym outside))
  has_limit false b c none inside outside = absurd (false≢true inside)

  -- a channel on the side whose pass is not has a limit
  pub limit_outside : (t c : ℕ) → 1 ≤ t → t ≤ length q.windows → c < length q.limits → is_on side (Channel t c) ≡ true → is_on side (Pass t) ≡ false → IsSome (limit q c t)
  unfolding unlimited_out
  limit_outside t c first last below inside outside =
      has_limit (is_on side (Channel t c)) (is_on side (Pass t)) (is_some (limit q c t))
      (omega (arith, unlimited_none, arcs_by_kind q a unlimited_out, term-le-grid (λ u k. cond (is_on side (Channel u k) && not (is_on side (Pass u))) (cond {A = ℕ} (is_some (limit q k u)) 0 1) 0) (length q.windows) (length q.limits) t c first last below))
      inside outside
