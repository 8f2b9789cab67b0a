-- The lists of a table and of an array of `toml`.
use Rattle.std.proofs.Common.{◌≡◌, ℕ, ◌&&◌, List, [], ◌∷◌, map, String, Global, string_bytes, refl, ap}
use Rattle.std.proofs.lemmas.Str.{IsUtf8-from_is_utf8, is_utf8-from_IsUtf8}
use Rattle.std.specs.Bool.{Decides}
use Rattle.std.specs.List.{list_all}
use Rattle.std.specs.Map.{keys_of as map_keys}
use Rattle.std.specs.Prelude.{IsUtf8}
use Rattle.std.specs.Str.{is_utf8}
use Rattle.toml.specs.View.{view, items_view, members_view}
use Rattle.toml.specs.declared.value.Value.{Value}
use Rattle.mm_problem.specs.declared.fault.Name.{Name}
use Rattle.mm_problem.specs.Keys.{elements, is_named, has_only}

-- the keys of a table are those of its map
pub has_only_by_map : (names : List Name) (es : List (String Global × Value)) → has_only names (members_view es) ≡ list_all (λ k. is_named names (string_bytes k)) (map_keys es)
has_only_by_map names [] = refl
has_only_by_map names (e ∷ es) = ap (λ b. is_named names (string_bytes e.0) && b) (has_only_by_map names es)

-- the elements of an array are those of its vector
pub elements_by_vec : (vs : List Value) → elements (items_view vs) ≡ map view vs
elements_by_vec [] = refl
elements_by_vec (v ∷ vs) = ap (λ ds. view v ∷ ds) (elements_by_vec vs)

-- the test of UTF-8
pub is_utf8_decides : (octets : List ℕ) → Decides (is_utf8 octets) (IsUtf8 octets)
is_utf8_decides octets = (IsUtf8-from_is_utf8 octets, is_utf8-from_IsUtf8 octets)
