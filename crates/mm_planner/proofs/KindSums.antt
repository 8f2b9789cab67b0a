-- What enters and leaves a node of a problem's network, kind of arc by kind of arc.
use Rattle.std.proofs.Common.{◌≡◌, ◌≢◌, ℕ, ◌+◌, ◌<◌, ◌≤◌, cond, eqb, true, false, length, ap, inl, inr, arith}
use Rattle.std.specs.Prelude.{◌⊎◌}
use Rattle.std.specs.List.{sum_by, range_with_len}
use Rattle.std.proofs.lemmas.Bool.{cond-true, cond-false}
use Rattle.std.proofs.lemmas.Bool.Decides.{eqb_tells}
use Rattle.std.proofs.lemmas.List.Elements.{All-get_or}
use Rattle.mm_base.proofs.Grids.{grid, grid-same}
use Rattle.mm_base.proofs.RangeSums.{sum_by_range_same}
use Rattle.mm_base.proofs.Sums.{sum_by-filter}
use Rattle.mm_problem.specs.Setup.{IsStoreRow}
use Rattle.mm_problem.specs.Dumping.{Dumping, IsDumping, no_row, channel}
use Rattle.mm_flow.specs.declared.arc.Arc.{Arc}
use Rattle.mm_flow.specs.Graph.{starts_at, ends_at, places}
use Rattle.mm_flow.specs.Flow.{Flow, entering, leaving}
use Rattle.mm_planner.specs.declared.nodes.Node.{Node}
use Rattle.mm_planner.specs.declared.nodes.Node.TheVariants.{Source, Sink, In, Out, Channel, Pass}
use Rattle.mm_planner.specs.Nodes.{number_of}
use Rattle.mm_planner.specs.Network.{dump_node, Inflows, next_node, net_by}
use Rattle.mm_planner.specs.Taken.{take_place}
use Rattle.mm_planner.proofs.NodeNumbers.{IsNode, is_same, eqb-number_of}
use Rattle.mm_planner.proofs.Dumps.{dump_is_node}
use Rattle.mm_planner.proofs.ArcSums.{come_place, hold_place, keep_place, limit_place, window_place, arcs_by_kind}

-- what a flow carries on the arcs of each kind
abbrev pub come : Dumping → Flow → ℕ → ℕ → ℕ
come q f t s = f (come_place q t s)

-- what a store holds
abbrev pub hold : Dumping → Flow → ℕ → ℕ → ℕ
hold q f t s = f (hold_place q t s)

-- what it keeps for the next step
abbrev pub keep : Dumping → Flow → ℕ → ℕ → ℕ
keep q f t s = f (keep_place q t s)

-- what leaves it
abbrev pub leave : Dumping → Flow → ℕ → ℕ → ℕ
leave q f t s = f (take_place q t s)

-- what passes a channel
abbrev pub pass_on : Dumping → Flow → ℕ → ℕ → ℕ
pass_on q f t c = f (limit_place q t c)

-- what is sent
abbrev pub send : Dumping → Flow → ℕ → ℕ
send q f t = f (window_place q t)

-- where the blocks go that a store keeps
pub next_cases : (q : Dumping) (t s : ℕ) → ((t ≡ length q.windows) × (next_node q t s ≡ Sink)) ⊎ ((t ≢ length q.windows) × (next_node q t s ≡ In (t + 1) s))
next_cases q t s = elim (eqb_tells t (length q.windows)) [
  | inl last ↦ inl (last.1, cond-true (eqb t (length q.windows)) Sink (In (t + 1) s) last.0)
  | inr before ↦ inr (before.1, cond-false (eqb t (length q.windows)) Sink (In (t + 1) s) before.0)
]

-- a store's channel is one of the eight
pub channel_within : (q : Dumping) → IsDumping q → (s : ℕ) → s < length q.rows → channel q s ≤ 7
channel_within q is s within = (All-get_or IsStoreRow q.rows s no_row within is.stores.each).channel

-- what an arc carries, where its node is a given one
abbrev pub at_node : (ℕ → ℕ → Node) → (ℕ → ℕ → ℕ) → Node → ℕ → ℕ → ℕ
at_node node carries n t k = cond (is_same (node t k) n) (carries t k) 0

-- what the arcs of a kind carry that meet a node
pub kind_at : (node : ℕ → ℕ → Node) (carries : ℕ → ℕ → ℕ) (n : Node) (m r : ℕ) → IsNode n → ((t k : ℕ) → 1 ≤ t → t ≤ m → k < r → IsNode (node t k)) → grid (λ t k. cond (eqb (number_of (node t k)) (number_of n)) (carries t k) 0) m r ≡ grid (at_node node carries n) m r
kind_at node carries n m r is each =
    grid-same (λ t k. cond (eqb (number_of (node t k)) (number_of n)) (carries t k) 0) (at_node node carries n) m r
    (λ t k low high within. ap (λ b. cond b (carries t k) 0) (eqb-number_of (node t k) n (each t k low high within) is))

-- what the arcs for windows carry that meet a node
pub windows_at : (node : ℕ → Node) (carries : ℕ → ℕ) (n : Node) (m : ℕ) → IsNode n → ((t : ℕ) → 1 ≤ t → IsNode (node t)) → sum_by (λ t. cond (eqb (number_of (node t)) (number_of n)) (carries t) 0) (range_with_len 1 m) ≡ sum_by (λ t. cond (is_same (node t) n) (carries t) 0) (range_with_len 1 m)
windows_at node carries n m is each =
    sum_by_range_same (λ t. cond (eqb (number_of (node t)) (number_of n)) (carries t) 0) (λ t. cond (is_same (node t) n) (carries t) 0) 1 m
    (λ t low _. ap (λ b. cond b (carries t) 0) (eqb-number_of (node t) n (each t low) is))

module _ (q : Dumping) (a : Inflows) (is : IsDumping q) (f : Flow) (n : Node) (is_node : IsNode n) where
  -- each arc's node is one of the network's
  is_next : (t k : ℕ) → k < length q.rows → IsNode (next_node q t k)
  is_next t k within = elim (eqb t (length q.windows)) as (λ b. IsNode (cond b Sink (In (t + 1) k))) [ true ↦ tt | false ↦ (omega arith, omega (arith, is.stores.at_most)) ]

  is_channel : (t k : ℕ) → 1 ≤ t → k < length q.rows → IsNode (Channel t (channel q k))
  is_channel t k low within = (low, omega (arith, channel_within q is k within))

  -- what enters a node
  pub entering_kinds : entering (net_by q a) f (number_of n) ≡ grid (at_node (λ t s. In t s) (come q f) n) (length q.windows) (length q.rows) + grid (at_node (λ t s. Out t s) (hold q f) n) (length q.windows) (length q.rows) + grid (at_node (next_node q) (keep q f) n) (length q.windows) (length q.rows) + grid (at_node (λ t s. Channel t (channel q s)) (leave q f) n) (length q.windows) (length q.rows) + grid (at_node (λ t _. Pass t) (pass_on q f) n) (length q.windows) (length q.limits) + sum_by (λ t. cond (is_same Sink n) (send q f t) 0) (range_with_len 1 (length q.windows))
  unfolding entering
  entering_kinds =
      let m = length q.windows in
      let r = length q.rows in
      let most = is.stores.at_most in
      omega (
        arith,
        sum_by-filter f (ends_at (net_by q a) (number_of n)) (places (net_by q a)),
        arcs_by_kind q a (λ k (arc : Arc). cond (eqb arc.to (number_of n)) (f k) 0),
        kind_at (λ t s. In t s) (come q f) n m r is_node (λ t k low _ within. (low, omega arith)),
        kind_at (λ t s. Out t s) (hold q f) n m r is_node (λ t k low _ within. (low, omega arith)),
        kind_at (next_node q) (keep q f) n m r is_node (λ t k _ _ within. is_next t k within),
        kind_at (λ t s. Channel t (channel q s)) (leave q f) n m r is_node (λ t k low _ within. is_channel t k low within),
        kind_at (λ t _. Pass t) (pass_on q f) n m (length q.limits) is_node (λ t k low _ _. low),
        windows_at (λ _. Sink) (send q f) n m is_node (λ _ _. tt),
      )

  -- what leaves a node
  pub leaving_kinds : leaving (net_by q a) f (number_of n) ≡ grid (at_node (λ _ _. Source) (come q f) n) (length q.windows) (length q.rows) + grid (at_node (λ t s. In t s) (hold q f) n) (length q.windows) (length q.rows) + grid (at_node (λ t s. Out t s) (keep q f) n) (length q.windows) (length q.rows) + grid (at_node (dump_node q.come) (leave q f) n) (length q.windows) (length q.rows) + grid (at_node (λ t c. Channel t c) (pass_on q f) n) (length q.windows) (length q.limits) + sum_by (λ t. cond (is_same (Pass t) n) (send q f t) 0) (range_with_len 1 (length q.windows))
  unfolding leaving
  leaving_kinds =
      let m = length q.windows in
      let r = length q.rows in
      let most = is.stores.at_most in
      let eight = is.channels.all in
      omega (
        arith,
        sum_by-filter f (starts_at (net_by q a) (number_of n)) (places (net_by q a)),
        arcs_by_kind q a (λ k (arc : Arc). cond (eqb arc.from (number_of n)) (f k) 0),
        kind_at (λ _ _. Source) (come q f) n m r is_node (λ t k _ _ _. tt),
        kind_at (λ t s. In t s) (hold q f) n m r is_node (λ t k low _ within. (low, omega arith)),
        kind_at (λ t s. Out t s) (keep q f) n m r is_node (λ t k low _ within. (low, omega arith)),
        kind_at (dump_node q.come) (leave q f) n m r is_node (λ t k low _ within. dump_is_node q.come t k low (omega arith)),
        kind_at (λ t c. Channel t c) (pass_on q f) n m (length q.limits) is_node (λ t k low _ within. (low, omega arith)),
        windows_at (λ t. Pass t) (send q f) n m is_node (λ t low. low),
      )
