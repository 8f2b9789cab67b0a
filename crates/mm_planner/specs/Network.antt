-- The network of a problem: blocks flow from what arrives, through the stores, to the pass windows.
use Rattle.std.specs.Prelude.{ℕ, ◌+◌, ◌*◌, ◌==◌, nat_lt, if◌then◌else◌, Option, List, [], ◌∷◌, ◌++◌, length, map, Some}
use Rattle.std.specs.Prelude.{None}
use Rattle.std.specs.List.{flat_map, range_with_len}
use Rattle.mm_problem.specs.declared.come.Arrivals.{Arrivals}
use Rattle.mm_problem.specs.declared.come.Arrivals.TheVariants.{Before, During}
use Rattle.mm_problem.specs.Dumping.{Dumping, size, start, channel, limit, window, arrivals, stores, channels}
use Rattle.mm_flow.specs.declared.arc.Arc.{Arc}
use Rattle.mm_flow.specs.Graph.{Graph}
use Rattle.mm_planner.specs.declared.nodes.Node.{Node}
use Rattle.mm_planner.specs.declared.nodes.Node.TheVariants.{Source, Sink, In, Out, Channel, Pass}
use Rattle.mm_planner.specs.declared.nodes.TheConstants.{STEP_NODES}
use Rattle.mm_planner.specs.declared.way.Way.{Way}
use Rattle.mm_planner.specs.declared.way.Way.TheVariants.{Come, Hold, Keep, Take}
use Rattle.mm_planner.specs.Nodes.{number_of}

-- an arc from one node to another
abbrev pub joined : Node → Node → Option ℕ → Arc
joined a b most = record { from = number_of a; to = number_of b; capacity = most }

-- the node that receives the blocks which a store keeps: its input in the next step, and after the last step the sink
abbrev pub next_node : Dumping → ℕ → ℕ → Node
next_node q t s = if t == length q.windows then Sink else In (t + 1) s

-- the inflow of a store in a step: its arrivals, and in the first step also its start volume
abbrev pub inflow : Dumping → ℕ → ℕ → ℕ
inflow q t s = arrivals q s t + (if t == 1 then start q s else 0)

-- the inflow of each store in each step
abbrev pub Inflows : Type 0
Inflows = ℕ → ℕ → ℕ

-- the inflow if blocks arrive in the first stores only
abbrev pub first_inflow : ℕ → Dumping → Inflows
first_inflow k q t s = if nat_lt s k then inflow q t s else 0

-- the node from which a store's blocks are dumped: after its size applies where arrivals come before dumps, else before
abbrev pub dump_node : Arrivals → ℕ → ℕ → Node
dump_node Before t s = Out t s
dump_node During t s = In t s

-- the arc of a store in a step, by its kind: blocks arrive, the store holds at most its size, keeps them for the next
-- step, or dumps them
abbrev pub store_arc : Dumping → Inflows → Way → ℕ → ℕ → Arc
store_arc q a Come t s = joined Source (In t s) (Some (a t s))
store_arc q a Hold t s = joined (In t s) (Out t s) (Some (size q s t))
store_arc q a Keep t s = joined (Out t s) (next_node q t s) None
store_arc q a Take t s = joined (dump_node q.come t s) (Channel t (channel q s)) None

-- the arc of a channel, with its limit in the step
abbrev pub limit_arc : Dumping → ℕ → ℕ → Arc
limit_arc q t c = joined (Channel t c) (Pass t) (limit q c t)

-- the arc of the pass, with the step's window
abbrev pub window_arc : Dumping → ℕ → Arc
window_arc q t = joined (Pass t) Sink (Some (window q t))

-- the arcs of a step, kind by kind
abbrev pub step_arcs : Dumping → Inflows → ℕ → List Arc
step_arcs q a t =
    map (store_arc q a Come t) (stores q) ++ map (store_arc q a Hold t) (stores q)
    ++ map (store_arc q a Keep t) (stores q)
    ++ map (store_arc q a Take t) (stores q) ++ map (limit_arc q t) (channels q) ++ window_arc q t ∷ []

-- the arcs of the steps from the first on
abbrev pub arcs_of : Dumping → Inflows → ℕ → List Arc
arcs_of q a n = flat_map (step_arcs q a) (range_with_len 1 n)

-- the network of a problem with these inflows; it may have nodes without arcs
abbrev pub net_by : Dumping → Inflows → Graph
net_by q a = record { nodes = STEP_NODES * (length q.windows + 1); arcs = arcs_of q a (length q.windows) }

-- the network of a problem
abbrev pub net : Dumping → Graph
net q = net_by q (inflow q)
