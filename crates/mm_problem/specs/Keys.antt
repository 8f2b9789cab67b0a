-- The values at the keys of a setup's tables.
use Rattle.std.specs.Prelude.{ℕ, ℤ, pos, negsuc, Bool, ◌&&◌, nat_le, if◌then◌else◌, List, [], ◌∷◌, Option, Result, Ok}
use Rattle.std.specs.Prelude.{Err, option_map, option_and_then, bytes_eq}
use Rattle.std.specs.List.{list_any, list_all}
use Rattle.std.specs.Option.{ok_or, option_map_or}
use Rattle.toml.specs.Data.{Data, Items, no_items, item, Members, no_members, member, get_member, as_str, as_integer}
use Rattle.toml.specs.Data.{as_array}
use Rattle.mm_problem.specs.declared.fault.Fault.{Fault}
use Rattle.mm_problem.specs.declared.fault.Fault.TheVariants.{SetupField, Limit}
use Rattle.mm_problem.specs.declared.fault.Name.{Name}
use Rattle.mm_problem.specs.Name.{text_of}
use Rattle.mm_base.specs.Reading.{◌>>=◌}

-- the elements of an array, in order
abbrev pub elements : Items → List Data
elements no_items = []
elements (item d ds) = d ∷ elements ds

-- the keys of a table
abbrev pub keys_of : Members → List (List ℕ)
keys_of no_members = []
keys_of (member key d ms) = key ∷ keys_of ms

-- whether a key is one of these names
abbrev pub is_named : List Name → List ℕ → Bool
is_named names key = list_any (λ name. bytes_eq (text_of name) key) names

-- whether a table has no keys but these names
abbrev pub has_only : List Name → Members → Bool
has_only names ms = list_all (is_named names) (keys_of ms)

-- the value at a key
abbrev pub value_at : Name → Members → Option Data
value_at name ms = get_member (text_of name) ms

-- the text at a key of the table in this row
abbrev pub text_at : ℕ → Name → Members → Result (List ℕ) Fault
text_at row name ms = ok_or (option_and_then as_str (value_at name ms)) (SetupField row name)

-- the whole number at a key
abbrev pub integer_at : ℕ → Name → Members → Result ℤ Fault
integer_at row name ms = ok_or (option_and_then as_integer (value_at name ms)) (SetupField row name)

-- a whole number within its range
abbrev pub within : ℕ → ℕ → Name → ℤ → Result ℕ Fault
within low high name (pos n) = if nat_le low n && nat_le n high then Ok n else Err (Limit name)
within low high name (negsuc n) = Err (Limit name)

-- the whole number at a key, within its range
unfoldable pub number_at : ℕ → Name → ℕ → ℕ → Members → Result ℕ Fault
number_at row name low high ms = do
  z ← integer_at row name ms
  within low high name z

-- the elements of a value that is an array
abbrev pub elements_of : Name → Data → Result (List Data) Fault
elements_of name d = ok_or (option_map elements (as_array d)) (SetupField 0 name)

-- the elements of the array at a key of the document
abbrev pub array_at : Name → Members → Result (List Data) Fault
array_at name ms = ok_or (option_map elements (option_and_then as_array (value_at name ms))) (SetupField 0 name)

-- the same for a key that may be missing
abbrev pub array_if_any : Name → Members → Result (List Data) Fault
array_if_any name ms = option_map_or (elements_of name) (value_at name ms) (Ok [])
