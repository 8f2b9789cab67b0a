-- A maximum flow from channels to links sends all amounts, if there is room for each set of channels.
use Rattle.std.proofs.Common.{◌≡◌, ℕ, zero, suc, ◌+◌, ◌*◌, ◌<◌, ◌≤◌, eqb, Bool, true, false, not, ◌&&◌, cond, refl}
use Rattle.std.proofs.Common.{sym, ◌∙◌, ap}
use Rattle.std.proofs.Common.{arith, List, [], ◌∷◌, length, get_or, Some, take}
use Rattle.std.specs.Prelude.{filter, unwrap_or, is_some}
use Rattle.std.specs.List.{range_with_len, sum_by}
use Rattle.std.proofs.lemmas.Bool.{cond-true, cond-false, eq-eqb, ne_eqb, true≢false}
use Rattle.std.proofs.lemmas.List.{length-take-le, get_or-take}
use Rattle.std.proofs.lemmas.List.Sums.{sum_by-cons}
use Rattle.mm_base.proofs.Sums.{sum_by-filter, sum_by-add}
use Rattle.mm_base.proofs.RangeSums.{sum_by_range_same, sum_by_range-le, sum_by_filter_range-le, sum_by_range_zeros}
use Rattle.mm_base.proofs.RangeSums.{sum_by_range_one, sum_by_range_changed, sum_by_range_shift, term-le-sum_by_range}
use Rattle.mm_base.proofs.Tests.{cond-eqb_same, cond-eqb_other}
use Rattle.mm_base.specs.declared.limits.TheConstants.{CHANNELS}
use Rattle.mm_flow.specs.declared.arc.Arc.{Arc}
use Rattle.mm_flow.specs.declared.solved.Solved.{Solved}
use Rattle.mm_flow.specs.Graph.{Graph, arc, places, starts_at, ends_at}
use Rattle.mm_flow.specs.Flow.{Flow, leaving, entering}
use Rattle.mm_flow.specs.Cut.{Side, IsCut, leaves, capacity_of, limit_of as arc_limit}
use Rattle.mm_flow.specs.Solution.{IsSolved, IsWalk, HasUnlimitedPath}
use Rattle.mm_links.specs.declared.link.Link.{Link}
use Rattle.mm_links.specs.declared.link.Rooms.{Rooms}
use Rattle.mm_links.specs.Rooms.{Set, channels, limit_at, limit_of, room_at, room_of, AreRooms}
use Rattle.mm_links.specs.Shared.{amount, numbers, no_link, link, share, Keeps, KeepsRooms, IsShared}
use Rattle.mm_links.specs.Net.{link_node, source, sink, limit_arc, amount_arc, window_arc, shares, arc_of, arc_count}
use Rattle.mm_links.specs.Net.{IsBuilt, KeepsLimits}
use Rattle.mm_links.proofs.Arcs.{by_kind, limit_arc_at, amount_arc_at, window_arc_at, limited}

-- ---- sums

-- a sum over a list is one over its numbers
pub list_sum : {X : Type 0} (h : X → ℕ) (d : X) (xs : List X)
    → sum_by h xs ≡ sum_by (λ i. h (get_or xs i d)) (range_with_len 0 (length xs))
list_sum h d [] = refl
list_sum h d (x ∷ xs) =
    let at : ℕ → ℕ = λ i. h (get_or (x ∷ xs) i d) in
    omega (
      arith,
      sum_by-cons h x xs,
      sum_by-cons at 0 (range_with_len 1 (length xs)),
      sum_by_range_shift at 0 (length xs),
      sum_by_range_same (λ i. at (i + 1)) (λ i. h (get_or xs i d)) 0 (length xs)
          (λ i _ _. let one : i + 1 ≡ suc i = omega arith in ap at one),
      list_sum h d xs,
    )

-- terms that are no larger, and come to no less, are equal
tight : (f g : ℕ → ℕ) (n i : ℕ) → ((t : ℕ) → t < n → f t ≤ g t)
    → sum_by g (range_with_len 0 n) ≤ sum_by f (range_with_len 0 n) → i < n → f i ≡ g i
tight f g n i each all within =
    let h : ℕ → ℕ = λ t. cond (eqb t i) (g t) (f t) in
    let here : h i ≡ g i = cond-true {A = ℕ} (eqb i i) (g i) (f i) (eq-eqb i i refl) in
    omega (
      arith,
      here,
      each i within,
      sum_by_range_changed f h 0 n i (omega arith) (omega arith)
          (λ t _ _ other. cond-false {A = ℕ} (eqb t i) (g t) (f t) (ne_eqb t i other)),
      sum_by_range-le h g 0 n (λ t _ below. least (eqb t i) (f t) (g t) (each t (omega arith))),
    )
  where
    least : (b : Bool) (m k : ℕ) → m ≤ k → cond b k m ≤ k
    least true m k le = omega arith
    least false m k le = le

-- what passes a test and what does not
two_parts : (p : Bool) (m : ℕ) → m ≡ cond p m 0 + cond (not p) m 0
two_parts true m = omega arith
two_parts false m = omega arith

-- ---- the flow by node

module _ (links : List Link) (x : List ℕ) (g : Graph) (built : IsBuilt links x g (arc_count links)) (f : Flow) where
  -- what a link gets of a channel
  abbrev sent : ℕ → ℕ → ℕ
  sent l c = f (l * CHANNELS + c)

  -- what a channel gets
  abbrev given : ℕ → ℕ
  given c = f (shares links + c)

  -- what a link sends
  abbrev taken : ℕ → ℕ
  taken l = f (shares links + CHANNELS + l)

  -- what an arc carries that ends at a node
  abbrev ends : ℕ → ℕ → Arc → ℕ
  ends node k a = cond (eqb a.to node) (f k) 0

  -- what an arc carries that starts at a node
  abbrev starts : ℕ → ℕ → Arc → ℕ
  starts node k a = cond (eqb a.from node) (f k) 0

  -- what enters a node, kind by kind
  enters : (node : ℕ) → entering g f node
      ≡ sum_by (λ l. sum_by (λ c. cond (eqb (link_node l) node) (sent l c) 0) channels) (numbers links)
      + sum_by (λ c. cond (eqb c node) (given c) 0) channels
      + sum_by (λ l. cond (eqb (sink links) node) (taken l) 0) (numbers links)
  unfolding entering
  enters node = sum_by-filter f (ends_at g node) (places g) ∙ by_kind links x g built (ends node)

  -- what leaves a node, kind by kind
  departs : (node : ℕ) → leaving g f node
      ≡ sum_by (λ l. sum_by (λ c. cond (eqb c node) (sent l c) 0) channels) (numbers links)
      + sum_by (λ c. cond (eqb (source links) node) (given c) 0) channels
      + sum_by (λ l. cond (eqb (link_node l) node) (taken l) 0) (numbers links)
  unfolding leaving
  departs node = sum_by-filter f (starts_at g node) (places g) ∙ by_kind links x g built (starts node)

  -- at least what a link gets enters it
  enters_link : (l : ℕ) → l < length links → sum_by (sent l) channels ≤ entering g f (link_node l)
  enters_link l within =
      let node = link_node l in
      omega (
        arith,
        enters node,
        term-le-sum_by_range (λ k. sum_by (λ c. cond (eqb (link_node k) node) (sent k c) 0) channels) 0
            (length links) l (omega arith) (omega arith),
        sum_by_range_same (sent l) (λ c. cond (eqb node node) (sent l c) 0) 0 CHANNELS
            (λ c _ _. sym (cond-eqb_same node node (sent l c) refl)),
      )

  -- what a link sends leaves it
  departs_link : (l : ℕ) → l < length links → leaving g f (link_node l) ≡ taken l
  departs_link l within =
      let node = link_node l in
      omega (
        arith,
        departs node,
        sum_by_range_zeros (λ k. sum_by (λ c. cond (eqb c node) (sent k c) 0) channels) 0 (length links)
            (λ k _ _. sum_by_range_zeros (λ c. cond (eqb c node) (sent k c) 0) 0 CHANNELS
            (λ c _ below. cond-eqb_other c node (sent k c) (λ e. omega (arith, e)))),
        sum_by_range_zeros (λ c. cond (eqb (source links) node) (given c) 0) 0 CHANNELS
            (λ c _ _. cond-eqb_other (source links) node (given c) (λ e. omega (arith, e))),
        sum_by_range_one (λ k. cond (eqb (link_node k) node) (taken k) 0) 0 (length links) l (omega arith) (omega arith)
            (λ k _ _ other. cond-eqb_other (link_node k) node (taken k) (λ e. other (omega (arith, e)))),
        cond-eqb_same node node (taken l) refl,
      )

  -- what a channel gets enters it
  enters_channel : (c : ℕ) → c < CHANNELS → entering g f c ≡ given c
  enters_channel c below =
      omega (
        arith,
        enters c,
        sum_by_range_zeros (λ l. sum_by (λ d. cond (eqb (link_node l) c) (sent l d) 0) channels) 0 (length links)
            (λ l _ _. sum_by_range_zeros (λ d. cond (eqb (link_node l) c) (sent l d) 0) 0 CHANNELS
            (λ d _ _. cond-eqb_other (link_node l) c (sent l d) (λ e. omega (arith, e)))),
        sum_by_range_one (λ d. cond (eqb d c) (given d) 0) 0 CHANNELS c (omega arith) (omega arith)
            (λ d _ _ other. cond-eqb_other d c (given d) other),
        cond-eqb_same c c (given c) refl,
        sum_by_range_zeros (λ l. cond (eqb (sink links) c) (taken l) 0) 0 (length links)
            (λ l _ _. cond-eqb_other (sink links) c (taken l) (λ e. omega (arith, e))),
      )

  -- what links get of a channel leaves it
  departs_channel : (c : ℕ) → c < CHANNELS → leaving g f c ≡ sum_by (λ l. sent l c) (numbers links)
  departs_channel c below =
      omega (
        arith,
        departs c,
        sum_by_range_same (λ l. sum_by (λ d. cond (eqb d c) (sent l d) 0) channels) (λ l. sent l c) 0 (length links)
            (λ l _ _. sum_by_range_one (λ d. cond (eqb d c) (sent l d) 0) 0 CHANNELS c (omega arith) (omega arith)
            (λ d _ _ other. cond-eqb_other d c (sent l d) other)
            ∙ cond-eqb_same c c (sent l c) refl),
        sum_by_range_zeros (λ d. cond (eqb (source links) c) (given d) 0) 0 CHANNELS
            (λ d _ _. cond-eqb_other (source links) c (given d) (λ e. omega (arith, e))),
        sum_by_range_zeros (λ l. cond (eqb (link_node l) c) (taken l) 0) 0 (length links)
            (λ l _ _. cond-eqb_other (link_node l) c (taken l) (λ e. omega (arith, e))),
      )

  -- what channels get leaves the source
  departs_source : leaving g f (source links) ≡ sum_by given channels
  departs_source =
      let node = source links in
      omega (
        arith,
        departs node,
        sum_by_range_zeros (λ l. sum_by (λ c. cond (eqb c node) (sent l c) 0) channels) 0 (length links)
            (λ l _ _. sum_by_range_zeros (λ c. cond (eqb c node) (sent l c) 0) 0 CHANNELS
            (λ c _ below. cond-eqb_other c node (sent l c) (λ e. omega (arith, e)))),
        sum_by_range_same (λ c. cond (eqb node node) (given c) 0) given 0 CHANNELS
            (λ c _ _. cond-eqb_same node node (given c) refl),
        sum_by_range_zeros (λ l. cond (eqb (link_node l) node) (taken l) 0) 0 (length links)
            (λ l _ within. cond-eqb_other (link_node l) node (taken l) (λ e. omega (arith, e))),
      )

-- ---- the cut

-- there is room for each set of channels
abbrev pub HasRoom : List Link → List ℕ → Type 0
HasRoom links x = (set : Set) → sum_by (amount x) (filter set channels) ≤ room_of links set

-- what a link can send of a set is at most what the cut has of its arcs
link_cut : (l : Link) (side : Set) (on : Bool) → room_at side l
    ≤ sum_by (λ c. cond (side c && not on) (limit_at l c) 0) channels + cond (on && not false) l.window 0
link_cut l side true = omega arith
link_cut l side false =
    omega (
      arith,
      sum_by-filter (limit_at l) side channels,
      sum_by_range_same (λ c. cond (side c) (limit_at l c) 0)
          (λ c. cond (side c && not false) (limit_at l c) 0) 0 CHANNELS
          (λ c _ _. ap (λ b. cond b (limit_at l c) 0) (alone (side c))),
    )
  where
    alone : (b : Bool) → b ≡ b && not false
    alone true = refl
    alone false = refl

-- a cut's capacity is at least what is to be sent
pub cut_sends : (links : List Link) (x : List ℕ) (g : Graph) (side : Side) → IsBuilt links x g (arc_count links)
    → HasRoom links x → IsCut g (source links) (sink links) side → sum_by (amount x) channels ≤ capacity_of g side
unfolding capacity_of
cut_sends links x g side built room cut =
    let F : ℕ → Arc → ℕ = λ k a. cond (side a.from && not (side a.to)) (unwrap_or a.capacity 0) 0 in
    let to_link : ℕ → ℕ = λ l. sum_by (λ c. cond (side c && not (side (link_node l)))
    (limit_at (link links l) c) 0) channels in
    let to_sink : ℕ → ℕ = λ l. cond (side (link_node l) && not false) (link links l).window 0 in
    let others : ℕ → ℕ = λ c. cond (not (side c)) (amount x c) 0 in
    omega (
      arith,
      sum_by-filter (arc_limit g) (leaves g side) (places g) ∙ by_kind links x g built F,
      sum_by_range_same (λ c. cond (side (source links) && not (side c)) (amount x c) 0) others 0 CHANNELS
          (λ c _ _. ap (λ b. cond (b && not (side c)) (amount x c) 0) cut.has_source),
      sum_by_range_same (λ l. cond (side (link_node l) && not (side (sink links))) (link links l).window 0) to_sink 0
          (length links)
          (λ l _ _. ap (λ b. cond (side (link_node l) && not b) (link links l).window 0) cut.lacks_sink),
      sum_by-add to_link to_sink (numbers links),
      sum_by_range-le (λ l. room_at side (link links l)) (λ l. to_link l + to_sink l) 0 (length links)
          (λ l _ _. link_cut (link links l) side (side (link_node l))),
      list_sum (room_at side) no_link links,
      room side,
      sum_by-filter (amount x) side channels,
      sum_by-add (λ c. cond (side c) (amount x c) 0) others channels,
      sum_by_range_same (amount x) (λ c. cond (side c) (amount x c) 0 + others c) 0 CHANNELS
          (λ c _ _. two_parts (side c) (amount x c)),
    )

-- ---- what is shared

-- a flow within the arcs' capacities that sends all is a share of the amounts
pub flow_shares : (links : List Link) (x : List ℕ) (g : Graph) (s : Solved) → IsBuilt links x g (arc_count links)
    → HasRoom links x → IsSolved g (source links) (sink links) s → IsShared links x (take (shares links) s.flow.items)
flow_shares links x g s built room solved =
    let f : Flow = λ k. get_or s.flow.items k 0 in
    let flow = solved.solution.flow in
    let many : shares links ≤ length s.flow.items = omega (arith, solved.arcs, built.arcs) in
    let least : (k most : ℕ) (a : Arc) → k < arc_count links → arc_of links x k ≡ a → a.capacity ≡ Some most → f k
    ≤ most =
    λ k most a inside is has. flow.within k most (ap (λ (b : Arc). b.capacity) (built.each k inside ∙ is) ∙ has) in
    let front : (l c : ℕ) → l < length links → c < CHANNELS → share (take (shares links) s.flow.items) l c ≡ f
    (l * CHANNELS + c) =
    λ l c within below. get_or-take (shares links) s.flow.items (l * CHANNELS + c) 0 (omega arith) in
    let all : (c : ℕ) → c < CHANNELS → f (shares links + c) ≡ amount x c =
    λ c below. tight (λ d. f (shares links + d)) (amount x) CHANNELS c
    (λ d under. least (shares links + d) (amount x d) (amount_arc links x d) (omega arith)
    (amount_arc_at links x d under) refl)
    (omega (
      arith,
      cut_sends links x g _ built room solved.solution.cut,
      solved.solution.equal,
      flow.has_value,
      departs_source links x g built f,
    )) below in
    record {
      size = length-take-le (shares links) s.flow.items many;
      limits = λ l c within below.
          omega (
            arith,
            front l c within below,
            least (l * CHANNELS + c) (limit_at (link links l) c)
                (limit_arc links l c) (omega arith) (limit_arc_at links x l c within below) refl,
          );
      windows = λ l within.
          omega (
            arith,
            sum_by_range_same (share (take (shares links) s.flow.items) l) (λ c. f (l * CHANNELS + c)) 0 CHANNELS
                (λ c _ below. front l c within (omega arith)),
            enters_link links x g built f l within,
            flow.conserved (link_node l) (λ e. omega (arith, e)) (λ e. omega (arith, e)),
            departs_link links x g built f l within,
            least (shares links + CHANNELS + l) (link links l).window (window_arc links l) (omega arith)
                (window_arc_at links x l) refl,
          );
      all = λ c below.
          sum_by_range_same (λ l. share (take (shares links) s.flow.items) l c) (λ l. f (l * CHANNELS + c)) 0
          (length links) (λ l _ within. front l c (omega arith) below)
          ∙ sym (departs_channel links x g built f c below) ∙ sym
          (flow.conserved c (λ e. omega (arith, e)) (λ e. omega (arith, e)))
          ∙ enters_channel links x g built f c below ∙ all c below;
    }

-- they keep the limits
pub keeps_limits : (links : List Link) (x : List ℕ) (rooms : Rooms) → AreRooms links rooms → Keeps rooms x
    → KeepsLimits links x
keeps_limits links x rooms are keeps c below = omega (arith, are.limits c below, keeps.limits c below)

-- amounts that keep the rooms have room
pub rooms_have_room : (links : List Link) (x : List ℕ) → KeepsRooms links x → HasRoom links x
rooms_have_room links x (rooms, (are, keeps)) set =
    omega (
      arith,
      are.window.each set,
      keeps.window,
      sum_by_filter_range-le set (amount x) (limit_of links) 0 CHANNELS
          (λ c _ below. keeps_limits links x rooms are keeps c (omega arith)),
      sum_by-filter (amount x) set channels,
      sum_by_range-le (λ c. cond (set c) (amount x c) 0) (amount x) 0 CHANNELS (λ c _ _. part (set c) (amount x c)),
    )
  where
    part : (b : Bool) (m : ℕ) → cond b m 0 ≤ m
    part true m = omega arith
    part false m = omega arith

-- no path of unlimited arcs leads to the sink
pub no_unlimited_path : (links : List Link) (x : List ℕ) (g : Graph) → IsBuilt links x g (arc_count links)
    → ¬ HasUnlimitedPath g (source links) (sink links)
no_unlimited_path links x g built path = walk path.0 path.1
  where
    walk : (n : ℕ) → IsWalk g (source links) (sink links) n → ⊥
    walk zero same = omega (arith, same)
    walk (suc n) way =
        let last = way.2 in
        let has : is_some (arc g last.0).capacity ≡ true = ap (λ (a : Arc). is_some a.capacity)
        (built.each last.0 (omega (arith, last.1, built.arcs))) ∙ limited links x last.0 in
        true≢false (sym has ∙ ap is_some last.4)
