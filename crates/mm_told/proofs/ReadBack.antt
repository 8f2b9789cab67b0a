-- What is told of a reason is read back as that reason.
use Rattle.std.proofs.Common.{◌≡◌, ℕ, Option, Some, refl, ap, ◌∙◌, slice_get, option_map, option_and_then}
use Rattle.mm_base.specs.Refusals.{number_of}
use Rattle.mm_base.specs.declared.refusal.Refusal.{Refusal}
use Rattle.mm_base.specs.declared.refusal.Refusal.TheVariants as refusal
use Rattle.mm_problem.specs.declared.fault.Name.{Name}
use Rattle.mm_problem.specs.declared.fault.Name.TheVariants as name
use Rattle.mm_told.specs.Codes.{code_of_name}
use Rattle.mm_told.specs.RefusedAts.{told_at, told_of, spot_told, reason_of, reason_told}
use Rattle.mm_told.specs.declared.codes.TheConstants.{NAMES, REFUSALS}
use Rattle.mm_told.specs.declared.reason.Reason.{Reason}
use Rattle.mm_told.specs.declared.spot.Spot.{Spot}
use Rattle.mm_told.specs.declared.spot.Spot.TheVariants.{Whole, Line, Row, Cell, Key, Number}

-- a name by its code
name-at : (n : Name) → slice_get NAMES (code_of_name n) ≡ Some n
name-at name.Store = refl
name-at other = search refl

-- a refusal by its number
refusal-at : (r : Refusal) → slice_get REFUSALS (number_of r) ≡ Some r
refusal-at refusal.NoMemory = refl
refusal-at other = search refl

-- a spot by its codes
spot-at : (number : ℕ) (spot : Spot) → spot_told (told_at number spot) ≡ Some spot
spot-at number Whole = refl
spot-at number (Line line) = refl
spot-at number (Row row) = refl
spot-at number (Cell row column) = refl
spot-at number (Key row name) = ap (option_map (λ n. Key row n)) (name-at name)
spot-at number (Number name) = ap (option_map (λ n. Number n)) (name-at name)

-- a refusal with the spot that is told
with-spot : (r : Refusal) (told : Option Spot) (spot : Spot) → told ≡ Some spot
    → option_and_then (λ (x : Refusal). option_map (reason_of x) told) (slice_get REFUSALS (number_of r)) ≡ Some
    (reason_of r spot)
with-spot r told spot is = ap (option_and_then (λ (x : Refusal). option_map (reason_of x) told)) (refusal-at r)
    ∙ ap (option_map (reason_of r)) is

read-back : (r : Refusal) (spot : Spot) → reason_told (told_at (number_of r) spot) ≡ Some (reason_of r spot)
read-back r Whole = with-spot r (spot_told (told_at (number_of r) Whole)) Whole (spot-at (number_of r) Whole)
read-back r (Line line) = with-spot r (spot_told (told_at (number_of r) (Line line))) (Line line)
    (spot-at (number_of r) (Line line))
read-back r (Row row) = with-spot r (spot_told (told_at (number_of r) (Row row))) (Row row)
    (spot-at (number_of r) (Row row))
read-back r (Cell row column) = with-spot r (spot_told (told_at (number_of r) (Cell row column))) (Cell row column)
    (spot-at (number_of r) (Cell row column))
read-back r (Key row name) = with-spot r (spot_told (told_at (number_of r) (Key row name))) (Key row name)
    (spot-at (number_of r) (Key row name))
read-back r (Number name) = with-spot r (spot_told (told_at (number_of r) (Number name))) (Number name)
    (spot-at (number_of r) (Number name))

pub reason_read_back : (reason : Reason) → reason_told (told_of reason) ≡ Some reason
reason_read_back reason = read-back reason.refusal reason.spot
