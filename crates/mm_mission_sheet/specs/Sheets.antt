-- The sheet of a plan: what each pass does to each store.
use Rattle.std.specs.Prelude.{◌≡◌, ℕ, zero, suc, ◌+◌, ◌-◌, ◌*◌, ◌^◌, ◌<◌, ◌≤◌, nat_le, nat_lt, ◌&&◌, Bool, if◌then◌else◌}
use Rattle.std.specs.Prelude.{List, [], ◌∷◌, ◌++◌, length, map, filter, drop, slice_index, slice_index_or, slice_get}
use Rattle.std.specs.Prelude.{Option, Some, None, codes, decimal}
use Rattle.std.specs.List.{flat_map, range_with_len, sum_by}
use Rattle.mm_base.specs.declared.limits.TheConstants.{MAX_STEPS}
use Rattle.mm_mission.specs.declared.packets.PacketStep.{PacketStep}
use Rattle.mm_mission.specs.declared.parts.Pass.{Pass}
use Rattle.mm_mission.specs.declared.parts.Span.{Span}
use Rattle.mm_mission.specs.Mission.{MissionRows, store_at}
use Rattle.mm_mission.specs.Packets.{no_step}
use Rattle.mm_mission_sheet.specs.declared.flight.PassName.{PassName}
use Rattle.mm_mission_sheet.specs.declared.sheet.Row.{Row}
use Rattle.mm_mission_sheet.specs.Cells.{csv_text}
use Rattle.mm_mission_sheet.specs.Rows.{sent_header, sent_cells}

-- ---- steps

-- what a step does to a store, by a list of all steps, store by store; steps count from 1
abbrev pub step_at : List ℕ → List PacketStep → ℕ → ℕ → PacketStep
step_at edges steps s t = slice_index_or steps (s * (length edges - 1) + (t - 1)) no_step

-- a sum over all steps
abbrev pub over_steps : List ℕ → (ℕ → ℕ) → ℕ
over_steps edges each = sum_by each (range_with_len 1 (length edges - 1))

-- whether a step lies in a time
abbrev pub lies_in : List ℕ → Span → ℕ → Bool
lies_in edges span t = nat_le span.begin (slice_index edges (t - 1)) && nat_le (slice_index edges t) span.end

-- whether a step begins in a time, and not as it ends
abbrev pub begins_in : List ℕ → Span → ℕ → Bool
begins_in edges span t = nat_le span.begin (slice_index edges (t - 1)) && nat_lt (slice_index edges (t - 1)) span.end

-- the packets of a store that a step sends, if it lies in a time
abbrev pub sent_then : List ℕ → List PacketStep → ℕ → Span → ℕ → ℕ
sent_then edges steps s span t = if lies_in edges span t then (step_at edges steps s t).dumped else 0

-- the packets of a store that are lost in a step, if it begins in a time
abbrev pub lost_then : List ℕ → List PacketStep → ℕ → Span → ℕ → ℕ
lost_then edges steps s span t = if begins_in edges span t then (step_at edges steps s t).lost else 0

-- how many steps have ended by a time
unfoldable pub ended : List ℕ → ℕ → ℕ
ended edges time = length (filter (λ edge. nat_le edge time) (drop 1 edges))

-- what a store holds as a step ends; step 0 ends as the mission begins
abbrev pub held_after : MissionRows → List ℕ → List PacketStep → ℕ → ℕ → ℕ
held_after m edges steps s zero = (store_at m s).start
held_after m edges steps s (suc t) = (step_at edges steps s (suc t)).held

-- ---- rows

-- a row: what is sent of a store in the steps that lie in a time, what it holds at its begin and end, as the last step
-- has ended by then, and what it loses in the steps that begin from then on until another time
unfoldable pub row_of : MissionRows → List ℕ → List PacketStep → Option ℕ → Span → ℕ → ℕ → Row
row_of m edges steps pass span until s = record {
  sent = record {
    pass = pass;
    span = span;
    store = s;
    packets = over_steps edges (sent_then edges steps s span);
  };
  before = held_after m edges steps s (ended edges span.begin);
  after = held_after m edges steps s (ended edges span.end);
  lost = over_steps edges (lost_then edges steps s (record { begin = span.begin; end = until }));
}

-- when a pass lasts, if there is one
abbrev pub span_of : Option Pass → Span
span_of None = record { begin = 0; end = 0 }
span_of (Some p) = p.span

-- when the pass at a place begins, or when a mission that lasts so long ends
abbrev pub begin_of : ℕ → Option Pass → ℕ
begin_of lasts None = lasts
begin_of lasts (Some p) = p.span.begin

abbrev pub next_begin : MissionRows → ℕ → ℕ
next_begin m p = begin_of m.lasts (slice_get m.passes p)

-- the row of a pass: what is lost until the next one begins is its loss
abbrev pub row_in : MissionRows → List ℕ → List PacketStep → ℕ → ℕ → Row
row_in m edges steps p s = row_of m edges steps (Some p) (span_of (slice_get m.passes p)) (next_begin m (p + 1)) s

-- the row of the time before the first pass
abbrev pub row_before : MissionRows → List ℕ → List PacketStep → ℕ → Row
row_before m edges steps s =
    row_of m edges steps None (record { begin = 0; end = next_begin m 0 }) (next_begin m 0) s

-- whether something is lost
abbrev pub loses : Row → Bool
loses row = nat_lt 0 row.lost

-- the rows before the first pass, of the stores that lose something then
abbrev pub rows_before : MissionRows → List ℕ → List PacketStep → List Row
rows_before m edges steps = filter loses (map (row_before m edges steps) (range_with_len 0 (length m.stores)))

-- the rows of a pass, one for each store
abbrev pub rows_in : MissionRows → List ℕ → List PacketStep → ℕ → List Row
rows_in m edges steps p = map (row_in m edges steps p) (range_with_len 0 (length m.stores))

-- all rows, the passes in order
abbrev pub sheet_rows : MissionRows → List ℕ → List PacketStep → List Row
sheet_rows m edges steps =
    rows_before m edges steps ++ flat_map (rows_in m edges steps) (range_with_len 0 (length m.passes))

-- ---- lines

abbrev pub before_first : List ℕ
before_first = codes "before the first pass"

abbrev pub sheet_header : List (List ℕ)
sheet_header = sent_header ++ codes "before" ∷ codes "after" ∷ codes "lost" ∷ []

-- the line of a row
abbrev pub row_cells : ℕ → MissionRows → List PassName → Row → List (List ℕ)
row_cells begin m names row =
    sent_cells begin m names before_first row.sent ++ decimal row.before ∷ decimal row.after ∷ decimal row.lost ∷ []

-- the lines of rows
abbrev pub rows_text : ℕ → MissionRows → List PassName → List Row → List ℕ
rows_text begin m names rows = csv_text (map (row_cells begin m names) rows)

-- a header, and a line for each row
abbrev pub sheet_lines : ℕ → MissionRows → List PassName → List Row → List (List (List ℕ))
sheet_lines begin m names rows = sheet_header ∷ map (row_cells begin m names) rows

-- ---- what is asked of steps

-- steps of a mission within the limits of its numbers, as those of a plan are
pub record AreFlown (m : MissionRows) (edges : List ℕ) (steps : List PacketStep) : Type 0 where
  pub some : 1 ≤ length edges
  pub few : length edges ≤ MAX_STEPS + 1
  pub table : length steps ≡ length m.stores * (length edges - 1)
  pub few_lost : (s : ℕ) → s < length m.stores → over_steps edges (λ t. (step_at edges steps s t).lost) < 2 ^ 127
