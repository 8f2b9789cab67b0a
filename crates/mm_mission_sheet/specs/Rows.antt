-- The cells that say what is sent, in both tables.
use Rattle.std.specs.Prelude.{◌≡◌, ℕ, ◌+◌, ◌-◌, ◌*◌, ◌/◌, ◌^◌, ◌<◌, ◌≤◌, List, [], ◌∷◌, ◌++◌, length, map, slice_index_or}
use Rattle.std.specs.Prelude.{Option, Some, None, IfSome, codes, decimal}
use Rattle.mm_base.specs.Id.{id_text}
use Rattle.mm_mission.specs.declared.parts.Span.{Span}
use Rattle.mm_mission.specs.Mission.{MissionRows, store_at}
use Rattle.mm_mission.specs.Timeline.{length_of}
use Rattle.mm_mission_sheet.specs.declared.flight.PassName.{PassName}
use Rattle.mm_mission_sheet.specs.declared.flight.Sent.{Sent}
use Rattle.mm_mission_sheet.specs.Dates.{utc_text}

-- the name and the station of a pass
abbrev pub name_cells : PassName → List (List ℕ)
name_cells n = n.name.now ∷ n.station.now ∷ []

-- the same of the pass at a place; without one, the name is `none`
abbrev pub pass_cells : List PassName → List ℕ → Option ℕ → List (List ℕ)
pass_cells names none None = none ∷ [] ∷ []
pass_cells names none (Some p) = slice_index_or (map name_cells names) p []

-- the bits of so many octets in a second, where they take a time, rounded down
abbrev pub bits_a_second : ℕ → Span → ℕ
bits_a_second octets span = octets * 8 * 1000000 / length_of span

-- from when to when
abbrev pub span_cells : ℕ → Span → List (List ℕ)
span_cells begin span = utc_text (begin + span.begin) ∷ utc_text (begin + span.end) ∷ []

-- the store, its packets, their octets, and the bits of them in a second
abbrev pub amount_cells : MissionRows → Sent → List (List ℕ)
amount_cells m sent =
    let octets = sent.packets * (store_at m sent.store).packet in
    id_text (store_at m sent.store).id ∷ decimal sent.packets ∷ decimal octets
    ∷ decimal (bits_a_second octets sent.span) ∷ []

abbrev pub sent_header : List (List ℕ)
sent_header =
    codes "pass" ∷ codes "station" ∷ codes "begin" ∷ codes "end" ∷ codes "store" ∷ codes "packets" ∷ codes "octets"
    ∷ codes "bit/s" ∷ []

-- what is sent of a store in a time, in a mission that begins at a moment
abbrev pub sent_cells : ℕ → MissionRows → List PassName → List ℕ → Sent → List (List ℕ)
sent_cells begin m names none sent = pass_cells names none sent.pass ++ span_cells begin sent.span ++ amount_cells m sent

-- in a mission so many packets can be sent of a store in a time
pub record IsSent (m : MissionRows) (sent : Sent) : Type 0 where
  pub pass : IfSome sent.pass (λ p. p < length m.passes)
  pub later : sent.span.begin < sent.span.end
  pub within : sent.span.end ≤ m.lasts
  pub store : sent.store < length m.stores
  pub few : sent.packets ≤ 2 ^ 90
