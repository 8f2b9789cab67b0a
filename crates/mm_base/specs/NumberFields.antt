-- Number fields, big-endian, at the front of a list of octets.
use Rattle.std.specs.Prelude.{ℕ, List, [], ◌∷◌, length, take, drop, Option, Some, None, nat_lt, if◌then◌else◌}
use Rattle.std.specs.Int.{Width, byte_len, from_be_bytes}

-- the first octet and the octets after it, or `None` if there is no octet
abbrev pub front_octet : List ℕ → Option (ℕ × List ℕ)
front_octet [] = None
front_octet (octet ∷ rest) = Some (octet, rest)

-- the number that the first octets spell and the octets after them, or `None` if there are too few octets
abbrev pub number_at : Width → List ℕ → Option (ℕ × List ℕ)
number_at w octets = if nat_lt (length octets) (byte_len w) then None else Some
    (from_be_bytes w (take (byte_len w) octets), drop (byte_len w) octets)
