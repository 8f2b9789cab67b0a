-- A problem with one number changed.
use Rattle.std.specs.Prelude.{ℕ, ◌-◌, length, slice_set, Some}
use Rattle.mm_base.specs.declared.rows.StoreRow.{StoreRow}
use Rattle.mm_base.specs.Grid.{grid_place}
use Rattle.mm_problem.specs.declared.come.Arrivals.{Arrivals}
use Rattle.mm_problem.specs.Dumping.{Dumping, row}

-- the problem with another window in a step
abbrev pub with_window : Dumping → ℕ → ℕ → Dumping
with_window q t n = record q { windows = slice_set q.windows (t - 1) n }

-- the problem with another limit of a channel in the setup
abbrev pub with_limit : Dumping → ℕ → ℕ → Dumping
with_limit q c n = record q { limits = slice_set q.limits c (Some n) }

-- the problem with another limit in a step, in the column at a place; places count from 0
abbrev pub with_column_limit : Dumping → ℕ → ℕ → ℕ → Dumping
with_column_limit q column t n = record q {
  step_limits =
      slice_set q.step_limits (grid_place (length q.limited) t column) n;
}

-- the problem with another size in a step, in the column at a place; places count from 0
abbrev pub with_column_size : Dumping → ℕ → ℕ → ℕ → Dumping
with_column_size q column t n = record q {
  step_sizes = slice_set q.step_sizes (grid_place (length q.sized) t column)
      n;
}

-- the problem whose arrivals come then
abbrev pub with_arrivals : Dumping → Arrivals → Dumping
with_arrivals q come = record q { come = come }

-- a store of another size; its start volume stays, which may be above the size
abbrev pub resized : StoreRow → ℕ → StoreRow
resized r n = record { id = r.id; size = n; start = r.start; kind = r.kind; channel = r.channel }

-- the problem with another size of a store in the setup
abbrev pub with_size : Dumping → ℕ → ℕ → Dumping
with_size q s n = record q { rows = slice_set q.rows s (resized (row q s) n) }
