-- The identifiers of packet stores.
use Rattle.std.specs.Prelude.{◌≡◌, ℕ, ◌-◌, ◌≤◌, Bool, ◌==◌, nat_le, ◌&&◌, ◌||◌, List, ◌++◌, length, bytes_eq, IsTrue}
use Rattle.std.specs.Prelude.{All}
use Rattle.std.specs.List.{before_first, list_all}
use Rattle.std.proofs.Math.ListN.{replicate}
use Rattle.mm_base.specs.Characters.{space}

-- whether an octet is a character of identifiers: `A-Z`, `0-9`, `_` or `-`
abbrev pub is_id_char : ℕ → Bool
is_id_char c = (nat_le 65 c && nat_le c 90) || (nat_le 48 c && nat_le c 57) || (c == 95) || (c == 45)

-- a text that is an identifier: 1 to 8 of these characters
pub record IsIdText (text : List ℕ) : Type 0 where
  pub has_some : 1 ≤ length text
  pub at_most_eight : length text ≤ 8
  pub each : All (λ c. IsTrue (is_id_char c)) text

-- whether a text is an identifier
abbrev pub is_id_text : List ℕ → Bool
is_id_text text = nat_le 1 (length text) && nat_le (length text) 8 && list_all is_id_char text

-- a text padded with spaces to eight octets
abbrev pub field_of : List ℕ → List ℕ
field_of text = text ++ replicate (8 - length text) space

-- the text in a field, without its padding
abbrev pub id_text : List ℕ → List ℕ
id_text field = before_first (λ c. c == space) field

-- whether octets are the field of an identifier
abbrev pub is_id : List ℕ → Bool
is_id octets = is_id_text (id_text octets) && bytes_eq octets (field_of (id_text octets))

-- octets that are the field of an identifier
pub record IsIdField (field : List ℕ) : Type 0 where
  pub text : IsIdText (id_text field)
  pub padded : field ≡ field_of (id_text field)
