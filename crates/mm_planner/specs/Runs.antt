-- The cut of a side of the network: its stretches are the longest runs of one store's nodes on the side.
use Rattle.std.specs.Prelude.{ℕ, zero, suc, Bool, not, ◌&&◌, if◌then◌else◌, List, length, map, filter}
use Rattle.std.specs.List.{flat_map, range_with_len}
use Rattle.mm_problem.specs.Dumping.{Dumping, row, steps}
use Rattle.mm_plan.specs.declared.stretch.Stretch.{Stretch}
use Rattle.mm_cut.specs.Stretches.{is_inner}
use Rattle.mm_flow.specs.Cut.{Side}
use Rattle.mm_planner.specs.declared.nodes.Node.TheVariants.{In, Out, Pass}
use Rattle.mm_planner.specs.declared.nodes.Node.{Node}
use Rattle.mm_planner.specs.Nodes.{number_of}

-- whether a node is on the side
abbrev pub is_on : Side → Node → Bool
is_on side node = side (number_of node)

-- whether both nodes of a store in a step are on the side, so that its run continues in the next step
abbrev pub goes_on : Side → ℕ → ℕ → Bool
goes_on side s t = is_on side (In t s) && is_on side (Out t s)

-- whether a run of the store ends with the step: it enters the step and does not continue
abbrev pub is_end : Side → ℕ → ℕ → Bool
is_end side s t = is_on side (In t s) && not (is_on side (Out t s))

-- the first step of the run that a step is in; for step 1 it is always 1
abbrev pub first_step : Side → ℕ → ℕ → ℕ
first_step side s zero = 1
first_step side s (suc t) = if goes_on side s t then first_step side s t else suc t

-- the run of a store that ends with a step
abbrev pub stretch : Dumping → Side → ℕ → ℕ → Stretch
stretch q side s t = record { store = (row q s).id; first = first_step side s t; last = t }

-- the runs of a store
abbrev pub stretches_of : Dumping → Side → ℕ → List Stretch
stretches_of q side s = map (stretch q side s) (filter (is_end side s) (steps q))

-- the runs of the first stores
abbrev pub first_stretches : ℕ → Dumping → Side → List Stretch
first_stretches n q side = flat_map (stretches_of q side) (range_with_len 0 n)

-- the runs of all stores
abbrev pub stretches : Dumping → Side → List Stretch
stretches q side = first_stretches (length q.rows) q side

-- whether a step is inner and its pass is off the side
abbrev pub is_by_channels : Dumping → Side → List Stretch → ℕ → Bool
is_by_channels q side ds t = is_inner q ds t && not (is_on side (Pass t))

-- the steps that are counted by channels, for given stretches
abbrev pub counts_of : Dumping → Side → List Stretch → List ℕ
counts_of q side ds = filter (is_by_channels q side ds) (steps q)

-- the counted steps for the side's own stretches of the first stores
abbrev pub first_counts : ℕ → Dumping → Side → List ℕ
first_counts n q side = counts_of q side (first_stretches n q side)

-- the counted steps for all of the side's stretches
abbrev pub counts : Dumping → Side → List ℕ
counts q side = first_counts (length q.rows) q side
