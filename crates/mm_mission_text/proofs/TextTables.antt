-- The keys of a table of `toml`, and the faults of rows.
use Rattle.std.proofs.Common.{◌≡◌, ◌≢◌, not, ◌&&◌, ◌||◌, List, [], ◌∷◌, Option}
use Rattle.std.proofs.Common.{option_map, Result, Ok, Err, is_ok, String, Global, string_bytes, refl, ap, inl, inr}
use Rattle.std.proofs.lemmas.Bool.{cases_Bool}
use Rattle.std.specs.List.{find, list_all}
use Rattle.std.specs.Map.{keys_of as map_keys}
use Rattle.toml.specs.View.{members_view}
use Rattle.toml.specs.declared.value.Value.{Value}
use Rattle.mm_base.specs.Reading.{Gives}
use Rattle.mm_problem.specs.Keys.{keys_of}
use Rattle.mm_mission_text.specs.Cells.{told_as, channel_of}
use Rattle.mm_mission_text.specs.Columns.{is_named}
use Rattle.mm_mission_text.specs.Told.{told}
use Rattle.mm_mission_text.specs.Values.{strange_key}
use Rattle.mm_mission_text.specs.declared.column.Column.{Column}
use Rattle.mm_mission_text.specs.declared.fault.Fault.{Fault}
use Rattle.mm_mission_text.specs.declared.fault.Fault.TheVariants as row
use Rattle.mm_mission_text.specs.declared.mission_fault.MissionFault.TheVariants.{NoMemory, In}

-- the keys of a table that are channels are those of its map
pub channels_by_map : (es : List (String Global × Value))
    → list_all (λ key. is_ok (channel_of key)) (keys_of (members_view es))
    ≡ list_all (λ key. is_ok (channel_of (string_bytes key))) (map_keys es)
channels_by_map [] = refl
channels_by_map (e ∷ es) = ap (λ b. is_ok (channel_of (string_bytes e.0)) && b) (channels_by_map es)

-- the first key of a table that is not known is that of its map
pub strange_by_map : (columns others : List Column) (es : List (String Global × Value))
    → strange_key columns others (members_view es) ≡ option_map string_bytes
    (find (λ key. not (is_named columns (string_bytes key) || is_named others (string_bytes key))) (map_keys es))
strange_by_map columns others [] = refl
strange_by_map columns others (e ∷ es) =
    elim (cases_Bool (is_named columns (string_bytes e.0) || is_named others (string_bytes e.0))) [
      | inl known ↦ rw known (strange_by_map columns others es)
      | inr strange ↦ rw strange refl
    ]

-- a fault that is not out of memory is told as that of its table
told_other : (table : Option Column) (e : Fault) → told table e ≢ NoMemory
    → (e ≢ row.NoMemory) × (told table e ≡ In table e)
told_other table row.NoMemory other = absurd (other refl)
told_other table e other = ((λ same. cc), refl)

-- what a row gives, as its table tells it
pub told_gives : {X Y : Type 0} (see : X → Y) (table : Option Column) (found : Result X Fault) (given : Result Y Fault)
    → Gives row.NoMemory see found given → Gives NoMemory see (told_as (told table) found) (told_as (In table) given)
told_gives see table (Ok x) given gives = rw gives refl
told_gives see table (Err e) given gives = λ other.
    let facts = told_other table e other in
    rw (gives facts.0, facts.1) refl
