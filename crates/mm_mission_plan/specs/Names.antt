-- What passes are called.
use Rattle.std.specs.Prelude.{◌≡◌, ℕ, ◌==◌, nat_lt, Bool, not, ◌&&◌, ◌||◌, List, [], ◌∷◌, ◌++◌, map, decimal}
use Rattle.std.specs.Prelude.{Option, Some, None, bytes_eq, count_by, slice_get}
use Rattle.std.specs.List.{enumerate_from}
use Rattle.std.specs.Option.{option_map_or}
use Rattle.mm_base.specs.Characters.{space}
use Rattle.mm_mission_sheet.specs.declared.flight.PassName.{PassName}
use Rattle.mm_mission_sheet.specs.Rows.{name_cells}
use Rattle.mm_mission_text.specs.declared.pass.Pass.{Pass}

-- whether a pass in a row comes before another one in a row: by begin, then by end, and then by row
abbrev pub comes_before : ℕ → Pass → ℕ → Pass → Bool
comes_before row p other_row q =
    nat_lt p.begin q.begin
    || ((p.begin == q.begin) && (nat_lt p.end q.end || ((p.end == q.end) && nat_lt row other_row)))

-- whether another pass is over the station of a pass in a row, and comes no later
abbrev pub is_counted : ℕ → Pass → ℕ × Pass → Bool
is_counted row p other = bytes_eq p.station other.1.station && not (comes_before row p other.0 other.1)

-- the how manieth pass over its station a pass in a row is
unfoldable pub number_of : List Pass → ℕ → Pass → ℕ
number_of passes row p = count_by (is_counted row p) (enumerate_from 0 passes)

-- the name that is said, or that of the station and the number
abbrev pub said_name : Option (List ℕ) → List ℕ → ℕ → List ℕ
said_name (Some name) station number = name
said_name None station number = station ++ (space ∷ decimal number)

-- the name of a pass in a row: its own, or that of its station and a number
abbrev pub own_name : List Pass → ℕ → Pass → List ℕ
own_name passes row p = said_name p.name p.station (number_of passes row p)

-- the name of the pass in a row, which is empty past the last one
abbrev pub name_of : List Pass → ℕ → List ℕ
name_of passes row = option_map_or (own_name passes row) (slice_get passes row) []

-- the station of the pass in a row
abbrev pub station_of : List Pass → ℕ → List ℕ
station_of passes row = option_map_or (λ p. p.station) (slice_get passes row) []

-- the name and the station of the pass in a row
abbrev pub named : List Pass → ℕ → List (List ℕ)
named passes row = name_of passes row ∷ station_of passes row ∷ []

-- the names and the stations of the passes in these rows
abbrev pub AreNames : List Pass → List ℕ → List PassName → Type 0
AreNames passes rows names = map name_cells names ≡ map (named passes) rows
