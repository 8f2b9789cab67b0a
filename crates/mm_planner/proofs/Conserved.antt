-- In a flow of a problem's network as much comes into each node of a step as goes out of it.
use Rattle.std.proofs.Common.{◌≡◌, ℕ, zero, suc, ◌+◌, ◌<◌, ◌≤◌, false, cond, ◌&&◌, eqb, length, refl, sym, ap, ◌∙◌, inl, inr, arith}
use Rattle.std.specs.Prelude.{◌≢◌}
use Rattle.std.specs.List.{sum_by, range_with_len}
use Rattle.std.proofs.lemmas.Bool.{cond-true, cond-false, and_from, eq-eqb, ne_eqb, eqb-true, and_parts, false_from_ne_true}
use Rattle.mm_base.proofs.Grids.{grid, grid_zeros, grid-one, grid-row}
use Rattle.mm_base.proofs.RangeSums.{sum_by_range_zeros, sum_by_range_one, sum_by_range_same}
use Rattle.mm_base.proofs.Tests.{cond-eqb_same, cond-eqb_other}
use Rattle.mm_problem.specs.declared.come.Arrivals.{Arrivals}
use Rattle.mm_problem.specs.declared.come.Arrivals.TheVariants.{Before, During}
use Rattle.mm_problem.specs.Dumping.{Dumping, IsDumping, channel}
use Rattle.mm_flow.specs.Flow.{Flow, IsFlow, entering, leaving}
use Rattle.mm_planner.specs.declared.nodes.Node.{Node}
use Rattle.mm_planner.specs.declared.nodes.Node.TheVariants.{Source, Sink, In, Out, Channel, Pass}
use Rattle.mm_planner.specs.declared.nodes.TheConstants.{SOURCE, SINK}
use Rattle.mm_planner.specs.Nodes.{number_of}
use Rattle.mm_planner.specs.Network.{Inflows, next_node, dump_node, net_by}
use Rattle.mm_planner.proofs.Dumps.{from_in, from_out}
use Rattle.mm_planner.proofs.NodeNumbers.{IsNode, is_same}
use Rattle.mm_planner.proofs.KindSums.{come, hold, keep, leave, pass_on, send, at_node, next_cases, entering_kinds, leaving_kinds}

-- what a store keeps from the step before
abbrev pub carried : Dumping → Flow → ℕ → ℕ → ℕ
carried q f zero s = 0
carried q f (suc t) s = keep q f (suc t) s

-- ---- tables of what is counted where a test of step and column passes

-- the step and the column are given
at_place : (carries : ℕ → ℕ → ℕ) (m r t i : ℕ) → 1 ≤ t → t ≤ m → i < r → grid (λ u k. cond (eqb u t && eqb k i) (carries u k) 0) m r ≡ carries t i
at_place carries m r t i first last within =
    grid-one (λ u k. cond (eqb u t && eqb k i) (carries u k) 0) m r t i first last within
    (λ u k _ _ _ apart. cond-false (eqb u t && eqb k i) (carries u k) 0 (false_from_ne_true (eqb u t && eqb k i) (λ both.
    let parts = and_parts (eqb u t) (eqb k i) both in apart (eqb-true u t parts.0) (eqb-true k i parts.1))))
    ∙ cond-true (eqb t t && eqb i i) (carries t i) 0 (and_from (eqb t t) (eqb i i) (eq-eqb t t refl) (eq-eqb i i refl))

-- the step is given
at_step : (carries : ℕ → ℕ → ℕ) (m r t : ℕ) → 1 ≤ t → t ≤ m → grid (λ u k. cond (eqb u t) (carries u k) 0) m r ≡ sum_by (carries t) (range_with_len 0 r)
at_step carries m r t first last =
    grid-row (λ u k. cond (eqb u t) (carries u k) 0) m r t first last (λ u k _ _ _ other. cond-eqb_other u t (carries u k) other)
    ∙ sum_by_range_same (λ k. cond (eqb t t) (carries t k) 0) (carries t) 0 r (λ k _ _. cond-eqb_same t t (carries t k) refl)

-- the step is given, and a number that a column has
at_group : (carries : ℕ → ℕ → ℕ) (group : ℕ → ℕ) (m r t c : ℕ) → 1 ≤ t → t ≤ m → grid (λ u k. cond (eqb u t && eqb (group k) c) (carries u k) 0) m r ≡ sum_by (λ k. cond (eqb (group k) c) (carries t k) 0) (range_with_len 0 r)
at_group carries group m r t c first last =
    grid-row (λ u k. cond (eqb u t && eqb (group k) c) (carries u k) 0) m r t first last
    (λ u k _ _ _ other. ap (λ b. cond (b && eqb (group k) c) (carries u k) 0) (ne_eqb u t other))
    ∙ sum_by_range_same (λ k. cond (eqb t t && eqb (group k) c) (carries t k) 0) (λ k. cond (eqb (group k) c) (carries t k) 0) 0 r
    (λ k _ _. ap (λ b. cond (b && eqb (group k) c) (carries t k) 0) (eq-eqb t t refl))

-- nothing is counted
nothing : (m r : ℕ) → grid (λ _ _. 0) m r ≡ 0
nothing m r = grid_zeros (λ _ _. 0) m r (λ _ _ _ _ _. refl)

-- nor in any step
no_step : (m : ℕ) → sum_by (λ _. 0) (range_with_len 1 m) ≡ 0
no_step m = sum_by_range_zeros (λ _. 0) 1 m (λ _ _ _. refl)

-- the arcs of dumps begin at no node that is neither an input nor what a store holds
no_dump : (come : Arrivals) (carries : ℕ → ℕ → ℕ) (n : Node) (m r : ℕ) → ((t s : ℕ) → is_same (Out t s) n ≡ false)
    → ((t s : ℕ) → is_same (In t s) n ≡ false) → grid (at_node (dump_node come) carries n) m r ≡ 0
no_dump Before carries n m r no_out no_in = grid_zeros (at_node (dump_node Before) carries n) m r
    (λ t s _ _ _. ap (λ b. cond b (carries t s) 0) (no_out t s))
no_dump During carries n m r no_out no_in = grid_zeros (at_node (dump_node During) carries n) m r
    (λ t s _ _ _. ap (λ b. cond b (carries t s) 0) (no_in t s))

-- those that begin at a store's input
dump_from_in : (come : Arrivals) (carries : ℕ → ℕ → ℕ) (m r t s : ℕ) → 1 ≤ t → t ≤ m → s < r
    → grid (at_node (dump_node come) carries (In t s)) m r ≡ from_in come (carries t s)
dump_from_in Before carries m r t s first last below = nothing m r
dump_from_in During carries m r t s first last below = at_place carries m r t s first last below

-- those that begin at what it holds
dump_from_out : (come : Arrivals) (carries : ℕ → ℕ → ℕ) (m r t s : ℕ) → 1 ≤ t → t ≤ m → s < r
    → grid (at_node (dump_node come) carries (Out t s)) m r ≡ from_out come (carries t s)
dump_from_out Before carries m r t s first last below = at_place carries m r t s first last below
dump_from_out During carries m r t s first last below = nothing m r

-- ---- the arcs that meet a node

-- the source, or a node of one of the problem's steps
abbrev pub IsMet : Dumping → Node → Type 0
IsMet q Source = Unit {0}
IsMet q Sink = ⊥
IsMet q (In zero s) = ⊥
IsMet q (In (suc t) s) = (t < length q.windows) × (s < length q.rows)
IsMet q (Out t s) = (1 ≤ t) × (t ≤ length q.windows) × (s < length q.rows)
IsMet q (Channel t c) = (1 ≤ t) × (t ≤ length q.windows) × (c < length q.limits)
IsMet q (Pass t) = (1 ≤ t) × (t ≤ length q.windows)

-- what enters a node by the arcs that end there
abbrev pub enters : Dumping → Flow → Node → ℕ
enters q f Source = 0
enters q f Sink = 0
enters q f (In zero s) = 0
enters q f (In (suc t) s) = come q f (suc t) s + carried q f t s
enters q f (Out t s) = hold q f t s
enters q f (Channel t c) = sum_by (λ s. cond (eqb (channel q s) c) (leave q f t s) 0) (range_with_len 0 (length q.rows))
enters q f (Pass t) = sum_by (pass_on q f t) (range_with_len 0 (length q.limits))

-- what leaves it by the arcs that begin there
abbrev pub exits : Dumping → Flow → Node → ℕ
exits q f Source = grid (come q f) (length q.windows) (length q.rows)
exits q f Sink = 0
exits q f (In t s) = hold q f t s + from_in q.come (leave q f t s)
exits q f (Out t s) = keep q f t s + from_out q.come (leave q f t s)
exits q f (Channel t c) = pass_on q f t c
exits q f (Pass t) = send q f t

module _ (q : Dumping) (a : Inflows) (is : IsDumping q) (f : Flow) where
  -- the nodes that are met are the network's
  is_node : (n : Node) → IsMet q n → IsNode n
  is_node Source met = tt
  is_node Sink met = absurd met
  is_node (In zero s) met = absurd met
  is_node (In (suc t) s) met = (omega arith, omega (arith, met.1, is.stores.at_most))
  is_node (Out t s) met = (met.0, omega (arith, met.2, is.stores.at_most))
  is_node (Channel t c) met = (met.0, omega (arith, met.2, is.channels.all))
  is_node (Pass t) met = met.0

  -- no arc for what is kept ends at the node
  none_kept : (n : Node) → is_same Sink n ≡ false → ((t s : ℕ) → 1 ≤ t → is_same (In (t + 1) s) n ≡ false) → grid (at_node (next_node q) (keep q f) n) (length q.windows) (length q.rows) ≡ 0
  none_kept n no_sink no_in =
      grid_zeros (at_node (next_node q) (keep q f) n) (length q.windows) (length q.rows)
      (λ t s low _ _. elim (next_cases q t s) [
        | inl last ↦ ap (λ b. cond (is_same b n) (keep q f t s) 0) last.1 ∙ ap (λ b. cond b (keep q f t s) 0) no_sink
        | inr before ↦ ap (λ b. cond (is_same b n) (keep q f t s) 0) before.1 ∙ ap (λ b. cond b (keep q f t s) 0) (no_in t s low)
      ])

  -- the arcs by which blocks are kept for a step
  kept_into : (t s : ℕ) → t < length q.windows → s < length q.rows → grid (at_node (next_node q) (keep q f) (In (suc t) s)) (length q.windows) (length q.rows) ≡ carried q f t s
  kept_into zero s within below =
      none_kept (In 1 s) refl (λ t k low. ap (λ b. b && eqb k s) (ne_eqb (t + 1) 1 (λ same. omega (arith, same))))
  kept_into (suc t) s within below =
      grid-one (at_node (next_node q) (keep q f) (In (suc (suc t)) s)) (length q.windows) (length q.rows) (suc t) s (omega arith) (omega arith) below
      (λ u k low high under apart. elim (next_cases q u k) [
        | inl last ↦ ap (λ b. cond (is_same b (In (suc (suc t)) s)) (keep q f u k) 0) last.1
        | inr before ↦
            ap (λ b. cond (is_same b (In (suc (suc t)) s)) (keep q f u k) 0) before.1
            ∙ cond-false (eqb (u + 1) (suc (suc t)) && eqb k s) (keep q f u k) 0 (false_from_ne_true (eqb (u + 1) (suc (suc t)) && eqb k s) (λ both.
            let parts = and_parts (eqb (u + 1) (suc (suc t))) (eqb k s) both in
            let same = eqb-true (u + 1) (suc (suc t)) parts.0 in
            apart (omega (arith, same)) (eqb-true k s parts.1)))
      ])
      ∙ elim (next_cases q (suc t) s) [
        | inl last ↦ absurd (omega (arith, last.0))
        | inr before ↦
            let next : suc t + 1 ≡ suc (suc t) = omega arith in
            ap (λ b. cond (is_same b (In (suc (suc t)) s)) (keep q f (suc t) s) 0) before.1
            ∙ cond-true (eqb (suc t + 1) (suc (suc t)) && eqb s s) (keep q f (suc t) s) 0 (and_from (eqb (suc t + 1) (suc (suc t))) (eqb s s) (eq-eqb (suc t + 1) (suc (suc t)) next) (eq-eqb s s refl))
      ]

  -- what enters a node
  pub entering_is : (n : Node) → IsMet q n → entering (net_by q a) f (number_of n) ≡ enters q f n
  entering_is Source met =
      omega (arith, entering_kinds q a is f Source tt, nothing (length q.windows) (length q.rows), nothing (length q.windows) (length q.limits), no_step (length q.windows), none_kept Source refl (λ _ _ _. refl))
  entering_is Sink met = absurd met
  entering_is (In zero s) met = absurd met
  entering_is (In (suc t) s) met =
      omega (arith, entering_kinds q a is f (In (suc t) s) (is_node (In (suc t) s) met), nothing (length q.windows) (length q.rows), nothing (length q.windows) (length q.limits), no_step (length q.windows), at_place (come q f) (length q.windows) (length q.rows) (suc t) s (omega arith) (omega (arith, met.0)) met.1, kept_into t s met.0 met.1)
  entering_is (Out t s) met =
      omega (arith, entering_kinds q a is f (Out t s) (is_node (Out t s) met), nothing (length q.windows) (length q.rows), nothing (length q.windows) (length q.limits), no_step (length q.windows), at_place (hold q f) (length q.windows) (length q.rows) t s met.0 met.1 met.2, none_kept (Out t s) refl (λ _ _ _. refl))
  entering_is (Channel t c) met =
      omega (arith, entering_kinds q a is f (Channel t c) (is_node (Channel t c) met), nothing (length q.windows) (length q.rows), nothing (length q.windows) (length q.limits), no_step (length q.windows), at_group (leave q f) (channel q) (length q.windows) (length q.rows) t c met.0 met.1, none_kept (Channel t c) refl (λ _ _ _. refl))
  entering_is (Pass t) met =
      omega (arith, entering_kinds q a is f (Pass t) (is_node (Pass t) met), nothing (length q.windows) (length q.rows), no_step (length q.windows), at_step (pass_on q f) (length q.windows) (length q.limits) t met.0 met.1, none_kept (Pass t) refl (λ _ _ _. refl))

  -- what leaves a node
  pub leaving_is : (n : Node) → IsMet q n → leaving (net_by q a) f (number_of n) ≡ exits q f n
  leaving_is Source met =
      omega (arith, no_dump q.come (leave q f) Source (length q.windows) (length q.rows) (λ _ _. refl) (λ _ _. refl), leaving_kinds q a is f Source tt, nothing (length q.windows) (length q.rows), nothing (length q.windows) (length q.limits), no_step (length q.windows))
  leaving_is Sink met = absurd met
  leaving_is (In zero s) met = absurd met
  leaving_is (In (suc t) s) met =
      omega (arith, dump_from_in q.come (leave q f) (length q.windows) (length q.rows) (suc t) s (omega arith) (omega (arith, met.0)) met.1, leaving_kinds q a is f (In (suc t) s) (is_node (In (suc t) s) met), nothing (length q.windows) (length q.rows), nothing (length q.windows) (length q.limits), no_step (length q.windows), at_place (hold q f) (length q.windows) (length q.rows) (suc t) s (omega arith) (omega (arith, met.0)) met.1)
  leaving_is (Out t s) met =
      omega (arith, leaving_kinds q a is f (Out t s) (is_node (Out t s) met), nothing (length q.windows) (length q.rows), nothing (length q.windows) (length q.limits), no_step (length q.windows), at_place (keep q f) (length q.windows) (length q.rows) t s met.0 met.1 met.2, dump_from_out q.come (leave q f) (length q.windows) (length q.rows) t s met.0 met.1 met.2)
  leaving_is (Channel t c) met =
      omega (arith, no_dump q.come (leave q f) (Channel t c) (length q.windows) (length q.rows) (λ _ _. refl) (λ _ _. refl), leaving_kinds q a is f (Channel t c) (is_node (Channel t c) met), nothing (length q.windows) (length q.rows), no_step (length q.windows), at_place (pass_on q f) (length q.windows) (length q.limits) t c met.0 met.1 met.2)
  leaving_is (Pass t) met =
      omega (
        arith,
        no_dump q.come (leave q f) (Pass t) (length q.windows) (length q.rows) (λ _ _. refl) (λ _ _. refl),
        leaving_kinds q a is f (Pass t) (is_node (Pass t) met),
        nothing (length q.windows) (length q.rows),
        nothing (length q.windows) (length q.limits),
        sum_by_range_one (λ u. cond (eqb u t) (send q f u) 0) 1 (length q.windows) t met.0 (omega (arith, met.1)) (λ u _ _ other. cond-eqb_other u t (send q f u) other),
        cond-eqb_same t t (send q f t) refl,
      )

-- ---- flows

module _ (q : Dumping) (a : Inflows) (is : IsDumping q) (f : Flow) (value : ℕ) (flow : IsFlow (net_by q a) SOURCE SINK f value) where
  -- as much enters a node of a step as leaves it
  conserved : (n : Node) → IsMet q n → number_of n ≢ SOURCE → number_of n ≢ SINK → enters q f n ≡ exits q f n
  conserved n met no_source no_sink =
      sym (entering_is q a is f n met) ∙ flow.conserved (number_of n) no_source no_sink ∙ leaving_is q a is f n met

  -- what comes to a store and what it kept it holds, or lets go before
  pub in_conserved : (t s : ℕ) → t < length q.windows → s < length q.rows → come q f (suc t) s + carried q f t s ≡ hold q f (suc t) s + from_in q.come (leave q f (suc t) s)
  in_conserved t s within below = conserved (In (suc t) s) (within, below) (λ same. omega (arith, same)) (λ same. omega (arith, same))

  -- what a store holds it keeps or lets go
  pub out_conserved : (t s : ℕ) → 1 ≤ t → t ≤ length q.windows → s < length q.rows → hold q f t s ≡ keep q f t s + from_out q.come (leave q f t s)
  out_conserved t s first last below = conserved (Out t s) (first, last, below) (λ same. omega (arith, same)) (λ same. omega (arith, same))

  -- what leaves the stores of a channel passes it
  pub channel_conserved : (t c : ℕ) → 1 ≤ t → t ≤ length q.windows → c < length q.limits → sum_by (λ s. cond (eqb (channel q s) c) (leave q f t s) 0) (range_with_len 0 (length q.rows)) ≡ pass_on q f t c
  channel_conserved t c first last below = conserved (Channel t c) (first, last, below) (λ same. omega (arith, same)) (λ same. omega (arith, same))

  -- what passes the channels is sent
  pub pass_conserved : (t : ℕ) → 1 ≤ t → t ≤ length q.windows → sum_by (pass_on q f t) (range_with_len 0 (length q.limits)) ≡ send q f t
  pass_conserved t first last = conserved (Pass t) (first, last) (λ same. omega (arith, same)) (λ same. omega (arith, same))

  -- what comes to all stores is the flow's value
  pub come_is_value : grid (come q f) (length q.windows) (length q.rows) ≡ value
  come_is_value = omega (arith, flow.has_value, entering_is q a is f Source tt, leaving_is q a is f Source tt)
