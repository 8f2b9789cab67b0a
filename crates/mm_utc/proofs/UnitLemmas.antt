-- The table of units.
use Rattle.std.proofs.Common.{◌≡◌, ℕ, Bool, List, [], ◌∷◌, map, refl, inl, inr}
use Rattle.std.specs.Prelude.{bytes_eq}
use Rattle.std.specs.Option.{option_map}
use Rattle.std.specs.List.{find}
use Rattle.std.proofs.lemmas.Bool.{cases_Bool}
use Rattle.mm_utc.specs.declared.unit.Unit.{Unit}
use Rattle.mm_utc.specs.Units.{Row, row_of, units, unit_named}

-- the first unit with a name, by its row
find-map : (test : Row → Bool) (us : List Unit)
    → option_map row_of (find (λ u. test (row_of u)) us) ≡ find test (map row_of us)
find-map test [] = refl
find-map test (u ∷ us) = elim (cases_Bool (test (row_of u))) [
  | inl first ↦ rw first refl
  | inr other ↦ rw other (find-map test us)
]

-- the unit that is found in the table
pub unit_found : (us : List Unit) (name : List ℕ) → map row_of us ≡ units
    → option_map row_of (find (λ u. bytes_eq u.name.now name) us) ≡ unit_named name
unfolding unit_named
unit_found us name table = rw (find-map (λ row. bytes_eq row.name name) us, table) refl
