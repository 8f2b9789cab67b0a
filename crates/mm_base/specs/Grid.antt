-- Tables kept as one list: the steps in order, and in each step the stores in order.
use Rattle.std.specs.Prelude.{ℕ, ◌+◌, ◌-◌, ◌*◌, List, slice_index}

-- the place of the number for store s in step t, where each step has n stores; stores and places count from 0, steps
-- from 1
abbrev pub grid_place : ℕ → ℕ → ℕ → ℕ
grid_place n t s = (t - 1) * n + s

-- the number for store s in step t
abbrev pub cell : ℕ → List ℕ → ℕ → ℕ → ℕ
cell n cells s t = slice_index cells (grid_place n t s)
