-- When a mission begins and ends, and what part of a span lies in it.
use Rattle.std.specs.Prelude.{ℕ, ◌-◌, min, max, nat_lt, Bool, List, map, Option, Some, None, option_map, Result, Ok}
use Rattle.std.specs.Prelude.{if◌then◌else◌}
use Rattle.std.specs.List.{fold}
use Rattle.std.specs.Option.{ok_or, option_or}
use Rattle.mm_base.specs.Reading.{◌>>=◌, test}
use Rattle.mm_mission.specs.declared.parts.Span.{Span}
use Rattle.mm_mission_text.specs.declared.observation.Observation.{Observation}
use Rattle.mm_mission_text.specs.declared.pass.Pass.{Pass}
use Rattle.mm_mission_exact.specs.declared.fault.Fault.{Fault}
use Rattle.mm_mission_exact.specs.declared.fault.Fault.TheVariants.{NoTime, NotLater}
use Rattle.mm_mission_exact.specs.declared.rows.Rows.{Rows}
use Rattle.mm_mission_exact.specs.declared.window.Window.{Window}

-- when a row begins and ends
abbrev pub pass_window : Pass → Window
pass_window p = record { begin = p.begin; end = p.end }

abbrev pub observation_window : Observation → Window
observation_window o = record { begin = o.begin; end = o.end }

-- from the earlier begin to the later end
abbrev pub widened : Option Window → Window → Option Window
widened None w = Some w
widened (Some v) w = Some (record { begin = min v.begin w.begin; end = max v.end w.end })

-- from the first begin of all passes and observations to the last end, if there are any
abbrev pub extent_of : List Pass → List Observation → Option Window
extent_of passes observations =
    fold widened (fold widened None (map pass_window passes)) (map observation_window observations)

-- when the mission begins and ends: as it is said, or with its first and its last row
unfoldable pub window_of : Rows → Result Window Fault
window_of rows =
    let extent = extent_of rows.passes.now rows.observations.now in do
      begin ← ok_or (option_or rows.whole.now.begin (option_map (λ w. w.begin) extent)) NoTime
      end ← ok_or (option_or rows.whole.now.end (option_map (λ w. w.end) extent)) NoTime
      later ← test (nat_lt begin end) NotLater
      Ok (record { begin = begin; end = end })

-- the part of a span that lies in the mission, if any does, from the mission's begin on
abbrev pub part_in : Window → Window → Option Span
part_in mission w =
    let begin = max mission.begin w.begin in
    let end = min mission.end w.end in
    if nat_lt begin end then Some (record { begin = begin - mission.begin; end = end - mission.begin }) else None

-- whether two spans have a time of the mission in common
abbrev pub meet : Window → Window → Window → Bool
meet mission v w = nat_lt (max mission.begin (max v.begin w.begin)) (min mission.end (min v.end w.end))
