-- A refusal with its place, as codes.
use Rattle.std.specs.Prelude.{ℕ, Option, Some, slice_get, option_map, option_and_then}
use Rattle.mm_base.specs.Refusals.{number_of}
use Rattle.mm_base.specs.declared.refusal.Refusal.{Refusal}
use Rattle.mm_told.specs.Codes.{code_of_place, code_of_name}
use Rattle.mm_told.specs.declared.codes.Place.{Place}
use Rattle.mm_told.specs.declared.codes.Place.TheVariants as place
use Rattle.mm_told.specs.declared.codes.TheConstants.{PLACES, NAMES, REFUSALS}
use Rattle.mm_told.specs.declared.reason.Reason.{Reason}
use Rattle.mm_told.specs.declared.refused_at.RefusedAt.{RefusedAt}
use Rattle.mm_told.specs.declared.spot.Spot.{Spot}
use Rattle.mm_told.specs.declared.spot.Spot.TheVariants.{Whole, Line, Row, Cell, Key, Number}

-- a number and a place, and nothing further
abbrev pub bare : ℕ → Place → RefusedAt
bare number place = record { number = number; place = code_of_place place; row = 0; column = 0; line = 0; name = 0 }

-- a refusal of this number at a spot
abbrev pub told_at : ℕ → Spot → RefusedAt
told_at number Whole = bare number place.Whole
told_at number (Line line) = record (bare number place.Line) { line = line }
told_at number (Row row) = record (bare number place.Row) { row = row }
told_at number (Cell row column) = record (bare number place.Cell) { row = row; column = column }
told_at number (Key row name) = record (bare number place.Key) { row = row; name = code_of_name name }
told_at number (Number name) = record (bare number place.Number) { name = code_of_name name }

-- what is told of a reason
abbrev pub told_of : Reason → RefusedAt
told_of reason = told_at (number_of reason.refusal) reason.spot

-- the spot at a place of this kind
abbrev pub spot_at : RefusedAt → Place → Option Spot
spot_at told place.Whole = Some Whole
spot_at told place.Line = Some (Line told.line)
spot_at told place.Row = Some (Row told.row)
spot_at told place.Cell = Some (Cell told.row told.column)
spot_at told place.Key = option_map (λ name. Key told.row name) (slice_get NAMES told.name)
spot_at told place.Number = option_map (λ name. Number name) (slice_get NAMES told.name)

-- the spot that is told, if the codes are those of one
abbrev pub spot_told : RefusedAt → Option Spot
spot_told told = option_and_then (λ place. spot_at told place) (slice_get PLACES told.place)

-- a refusal at a spot
abbrev pub reason_of : Refusal → Spot → Reason
reason_of refusal spot = record { refusal = refusal; spot = spot }

-- the reason that is told, if the codes are those of one
abbrev pub reason_told : RefusedAt → Option Reason
reason_told told =
    option_and_then (λ refusal. option_map (reason_of refusal) (spot_told told)) (slice_get REFUSALS told.number)
