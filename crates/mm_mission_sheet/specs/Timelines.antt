-- The timeline as a table.
use Rattle.std.specs.Prelude.{◌≡◌, ℕ, ◌<◌, ◌≤◌, nat_le, ◌&&◌, List, [], ◌∷◌, length, map, position, Option, All}
use Rattle.std.specs.Ordering.{nat_cmp, ordering_then}
use Rattle.std.specs.declared.cmp.Ordering.{Ordering}
use Rattle.std.specs.List.Sorted.{IsPermutation, IsSortedByKey}
use Rattle.mm_mission.specs.declared.dumps.Dump.{Dump}
use Rattle.mm_mission.specs.declared.parts.Pass.{Pass}
use Rattle.mm_mission.specs.declared.parts.Span.{Span}
use Rattle.mm_mission.specs.Mission.{MissionRows}
use Rattle.mm_mission_sheet.specs.declared.flight.PassName.{PassName}
use Rattle.mm_mission_sheet.specs.declared.flight.Sent.{Sent}
use Rattle.mm_mission_sheet.specs.Cells.{csv_text}
use Rattle.mm_mission_sheet.specs.Rows.{sent_header, sent_cells}

-- the pass in which a time lies, if there is one
abbrev pub pass_of : List Pass → Span → Option ℕ
pass_of passes span = position (λ p. nat_le p.span.begin span.begin && nat_le span.end p.span.end) passes

-- what a dump sends
abbrev pub sent_by : MissionRows → Dump → Sent
sent_by m dump = record {
  pass = pass_of m.passes dump.span;
  span = dump.span;
  store = dump.store;
  packets = dump.packets;
}

-- a dump can be one of a mission
pub record IsDump (m : MissionRows) (dump : Dump) : Type 0 where
  pub later : dump.span.begin < dump.span.end
  pub within : dump.span.end ≤ m.lasts
  pub store : dump.store < length m.stores

-- dumps come by their begins, and then by their stores
abbrev pub dump_key : Dump → ℕ × ℕ
dump_key dump = (dump.span.begin, dump.store)

abbrev pub key_cmp : ℕ × ℕ → ℕ × ℕ → Ordering
key_cmp a b = ordering_then (nat_cmp a.0 b.0) (nat_cmp a.1 b.1)

-- the same dumps in this order
pub record AreOrdered (old new : List Dump) : Type 0 where
  pub same : IsPermutation old new
  pub order : IsSortedByKey dump_key key_cmp new

-- the line of a dump; one in no pass has no name
abbrev pub dump_cells : ℕ → MissionRows → List PassName → Dump → List (List ℕ)
dump_cells begin m names dump = sent_cells begin m names [] (sent_by m dump)

-- a header, and a line for each dump
abbrev pub timeline_lines : ℕ → MissionRows → List PassName → List Dump → List (List (List ℕ))
timeline_lines begin m names dumps = sent_header ∷ map (dump_cells begin m names) dumps

-- the table of dumps, by their begins and then by their stores
pub record IsTimelineText (begin : ℕ) (m : MissionRows) (names : List PassName) (dumps : List Dump) (text : List ℕ)
    : Type 0 where
  pub ordered : List Dump
  pub same : AreOrdered dumps ordered
  pub lines : text ≡ csv_text (timeline_lines begin m names ordered)
