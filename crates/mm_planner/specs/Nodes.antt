-- The nodes of a problem's network, and their numbers.
use Rattle.std.specs.Prelude.{ℕ, ◌+◌, ◌*◌}
use Rattle.mm_planner.specs.declared.nodes.Node.{Node}
use Rattle.mm_planner.specs.declared.nodes.Node.TheVariants.{Source, Sink, In, Out, Channel, Pass}
use Rattle.mm_planner.specs.declared.nodes.TheConstants.{SOURCE, SINK, STEP_NODES, OUT_NODES, CHANNEL_NODES, PASS_NODE}

-- the step of a node, 0 for the two ends
abbrev pub step_of : Node → ℕ
step_of Source = 0
step_of Sink = 0
step_of (In t s) = t
step_of (Out t s) = t
step_of (Channel t c) = t
step_of (Pass t) = t

-- the place of a node within its step
abbrev pub place_of : Node → ℕ
place_of Source = SOURCE
place_of Sink = SINK
place_of (In t s) = s
place_of (Out t s) = OUT_NODES + s
place_of (Channel t c) = CHANNEL_NODES + c
place_of (Pass t) = PASS_NODE

-- the number of a node
abbrev pub number_of : Node → ℕ
number_of node = STEP_NODES * step_of node + place_of node
