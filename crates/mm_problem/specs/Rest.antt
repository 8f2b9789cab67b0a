-- The problem of the steps after a step, from new start volumes.
use Rattle.std.specs.Prelude.{ℕ, ◌*◌, Bool, nat_le, List, length, map, drop, slice_index, slice_index_or, Result, Ok}
use Rattle.std.specs.List.{list_all, range_with_len}
use Rattle.mm_problem.specs.declared.fault.Fault.{Fault}
use Rattle.mm_problem.specs.declared.fault.Fault.TheVariants.{Limit}
use Rattle.mm_problem.specs.declared.fault.Name.TheVariants as name
use Rattle.mm_base.specs.declared.rows.StoreRow.{StoreRow}
use Rattle.mm_base.specs.Reading.{◌>>=◌, test}
use Rattle.mm_problem.specs.Dumping.{Dumping, no_row}

-- a store with another start volume
abbrev pub starting_with : StoreRow → ℕ → StoreRow
starting_with r start = record { id = r.id; size = r.size; start = start; kind = r.kind; channel = r.channel }

-- the stores, with these start volumes
abbrev pub rows_from : List StoreRow → List ℕ → List StoreRow
rows_from rows starts = map (λ s. starting_with (slice_index_or rows s no_row) (slice_index starts s))
    (range_with_len 0 (length rows))

-- the problem of the steps after this one, from these start volumes
abbrev pub rest_of : Dumping → ℕ → List ℕ → Dumping
rest_of q step starts = record {
  rows = rows_from q.rows starts;
  limits = q.limits;
  windows = drop step q.windows;
  arrived = drop (step * length q.rows) q.arrived;
  limited = q.limited;
  step_limits = drop (step * length q.limited) q.step_limits;
  sized = q.sized;
  step_sizes = drop (step * length q.sized) q.step_sizes;
  come = q.come;
}

-- whether each start volume fits in its store
abbrev pub starts_fit : List StoreRow → List ℕ → Bool
starts_fit rows starts = list_all (λ s. nat_le (slice_index starts s) (slice_index_or rows s no_row).size)
    (range_with_len 0 (length rows))

-- the problem of the steps after this one, if each start volume fits
unfoldable pub rest_from : Dumping → ℕ → List ℕ → Result Dumping Fault
rest_from q step starts = do
  within ← test (starts_fit q.rows starts) (Limit name.Start)
  Ok (rest_of q step starts)
