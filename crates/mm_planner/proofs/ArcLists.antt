-- Graphs to which arcs are added.
use Rattle.std.proofs.Common.{◌≡◌, ℕ, zero, suc, ◌+◌, ◌-◌, ◌*◌, ◌<◌, ◌≤◌, ltb, List, [], ◌∷◌, ◌++◌, Some, length, refl, sym, ap, ◌∙◌, arith, append_assoc, append-nil, length-append}
use Rattle.std.proofs.lemmas.Bool.{cond-true, lt-ltb}
use Rattle.std.specs.Prelude.{map}
use Rattle.std.specs.List.{range_with_len, flat_map}
use Rattle.std.proofs.Math.Nat.{mul-le-mul}
use Rattle.std.proofs.lemmas.List.Concat.{flat_map-append}
use Rattle.std.proofs.lemmas.List.FromFn.{length-map-range_with_len, map-range_with_len_more}
use Rattle.mm_base.proofs.Ranges.{range_with_len_next}
use Rattle.mm_flow.specs.declared.arc.Arc.{Arc}
use Rattle.mm_flow.specs.Graph.{Graph}
use Rattle.mm_flow.specs.Built.{Built, with_arc}
use Rattle.mm_flow.specs.declared.limits.TheConstants.{MAX_ARCS}
use Rattle.mm_base.specs.declared.limits.TheConstants.{MAX_STORES}
use Rattle.mm_problem.specs.Dumping.{Dumping, IsDumping, stores, channels}
use Rattle.mm_planner.specs.Network.{Inflows, inflow, first_inflow, joined, store_arc, limit_arc, window_arc, step_arcs, arcs_of, net_by, net}
use Rattle.mm_planner.specs.declared.nodes.Node.TheVariants.{Source, In}
use Rattle.mm_planner.specs.declared.way.Way.TheVariants.{Come, Hold, Keep, Take}
use Rattle.mm_planner.specs.Taken.{step_width}
use Rattle.mm_planner.proofs.ArcSums.{length-step}
use Rattle.mm_planner.specs.Growing.{with_arcs, HasRoom, KeepsRoom}

-- how many arcs there are
pub length_with_arcs : (h g : Graph) (arcs : List Arc) → h ≡ with_arcs g arcs → length h.arcs ≡ length g.arcs + length arcs
length_with_arcs h g arcs e = ap (λ (k : Graph). length k.arcs) e ∙ length-append g.arcs arcs

-- how many arcs there are once a kind is added as far as a number
pub length_added : (h g : Graph) (make : ℕ → Arc) (n : ℕ) → h ≡ with_arcs g (map make (range_with_len 0 n)) → length h.arcs ≡ length g.arcs + n
length_added h g make n e = length_with_arcs h g (map make (range_with_len 0 n)) e ∙ ap (λ k. length g.arcs + k) (length-map-range_with_len make 0 n)

-- the room that is left once a kind is added as far as a number
pub room_added : (q : Dumping) (h g : Graph) (make : ℕ → Arc) (n more all : ℕ) → h ≡ with_arcs g (map make (range_with_len 0 n)) → HasRoom q g all → n + more ≤ all → HasRoom q h more
room_added q h g make n more all e room within =
    let nodes : h.nodes ≡ g.nodes = ap (λ (k : Graph). k.nodes) e in
    record {
      nodes = nodes ∙ room.nodes;
      few_nodes = omega (arith, nodes, room.few_nodes);
      arcs = omega (arith, length_added h g make n e, room.arcs);
    }

-- a kind that is added as far as a number keeps room
pub keeps_room : (h g : Graph) (make : ℕ → Arc) (n most : ℕ) → h ≡ with_arcs g (map make (range_with_len 0 n)) → n ≤ most → KeepsRoom g h most
keeps_room h g make n most e few =
    record { nodes = ap (λ (k : Graph). k.nodes) e; arcs = omega (arith, length_added h g make n e) }

-- arcs after arcs
pub with_arcs-append : (h k g : Graph) (xs ys : List Arc) → h ≡ with_arcs g xs → k ≡ with_arcs h ys → k ≡ with_arcs g (xs ++ ys)
with_arcs-append h k g xs ys first next =
    next ∙ ap (λ b. with_arcs b ys) first ∙ ap (λ (zs : List Arc). let w : Graph = record { nodes = g.nodes; arcs = zs } in w) (append_assoc g.arcs xs ys)

-- one arc more
pub arcs_push : (b d : Built) (g : Graph) (make : ℕ → Arc) (n : ℕ) (a : Arc) → b.graph ≡ with_arcs g (map make (range_with_len 0 n)) → d ≡ with_arc b a → a ≡ make n → d.graph ≡ with_arcs g (map make (range_with_len 0 (n + 1)))
arcs_push b d g make n a so_far added is =
    with_arcs-append b.graph d.graph g (map make (range_with_len 0 n)) (make n ∷ []) so_far
    (ap (λ (e : Built). e.graph) added ∙ ap (λ (e : Arc). with_arcs b.graph (e ∷ [])) is)
    ∙ ap (with_arcs g) (sym (map-range_with_len_more make 0 n n refl_zero))
  where
    refl_zero : 0 + n ≡ n
    refl_zero = omega arith

-- how many arcs the steps of a range have
length-steps : (q : Dumping) (a : Inflows) (t n : ℕ) → length (flat_map (step_arcs q a) (range_with_len t n)) ≡ n * step_width q
length-steps q a t zero = omega arith
length-steps q a t (suc n) =
    omega (arith, length-append (step_arcs q a t) (flat_map (step_arcs q a) (range_with_len (t + 1) n)), length-step q a t, length-steps q a (t + 1) n)

-- how many arcs the first steps have
pub length-arcs_of : (q : Dumping) (a : Inflows) (n : ℕ) → length (arcs_of q a n) ≡ n * step_width q
length-arcs_of q a n = length-steps q a 1 n

-- there is room for the arcs of a step
pub few_arcs : (q : Dumping) (t : ℕ) → IsDumping q → t ≤ length q.windows → (t - 1) * step_width q + 6 * MAX_STORES ≤ MAX_ARCS
few_arcs q t is within =
    let width : step_width q ≤ 73 = omega (arith, is.stores.at_most, is.channels.all) in
    let before : t - 1 ≤ 256 = omega (arith, is.steps.at_most) in
    omega (arith, mul-le-mul before width)

-- the arcs of one step more
pub arcs_of_more : (q : Dumping) (a : Inflows) (t : ℕ) → 1 ≤ t → arcs_of q a (t + 1 - 1) ≡ arcs_of q a (t - 1) ++ step_arcs q a t
arcs_of_more q a t first =
    ap (flat_map (step_arcs q a)) (range_with_len_next t first)
    ∙ flat_map-append (step_arcs q a) (range_with_len 1 (t - 1)) (t ∷ [])
    ∙ ap (λ one. flat_map (step_arcs q a) (range_with_len 1 (t - 1)) ++ one) (append-nil (step_arcs q a t))

-- what the numbers of a range are made into, where two ways agree on them
map_range_same : {X : Type 0} (f g : ℕ → X) (i n : ℕ) → ((k : ℕ) → i ≤ k → k < i + n → f k ≡ g k) → map f (range_with_len i n) ≡ map g (range_with_len i n)
map_range_same f g i zero each = refl
map_range_same f g i (suc n) each =
    ap (λ x. x ∷ map f (range_with_len (i + 1) n)) (each i (omega arith) (omega arith))
    ∙ ap (λ xs. g i ∷ xs) (map_range_same f g (i + 1) n (λ k low high. each k (omega arith) (omega arith)))

-- where blocks come to the first stores, and these are all, they come to all
pub net_all : (q : Dumping) → net_by q (first_inflow (length q.rows) q) ≡ net q
net_all q = ap (λ (arcs : List Arc). let g : Graph = record { nodes = (net q).nodes; arcs = arcs } in g) all_steps
  where
    -- in each step
    in_step : (t : ℕ) → step_arcs q (first_inflow (length q.rows) q) t ≡ step_arcs q (inflow q) t
    in_step t =
        ap (λ (come : List Arc). come ++ map (store_arc q (inflow q) Hold t) (stores q) ++ map (store_arc q (inflow q) Keep t) (stores q) ++ map (store_arc q (inflow q) Take t) (stores q) ++ map (limit_arc q t) (channels q) ++ window_arc q t ∷ [])
        (map_range_same (store_arc q (first_inflow (length q.rows) q) Come t) (store_arc q (inflow q) Come t) 0 (length q.rows)
        (λ s _ below. ap (λ (n : ℕ). joined Source (In t s) (Some n)) (cond-true (ltb s (length q.rows)) (inflow q t s) 0 (lt-ltb s (length q.rows) (omega arith)))))

    -- in all
    all_steps : arcs_of q (first_inflow (length q.rows) q) (length q.windows) ≡ arcs_of q (inflow q) (length q.windows)
    all_steps = λ i. flat_map (λ t. in_step t i) (range_with_len 1 (length q.windows))
