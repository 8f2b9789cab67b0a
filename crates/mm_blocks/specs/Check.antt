-- CRC-32C (RFC 3720, 12.1): the remainder of a text's bits by a generator polynomial over two elements. A text's octets are sent in
-- their order and each octet's lowest bit first, so numbers here are polynomials read from their lowest bit, the highest power, on.
use Rattle.std.specs.Prelude.{ℕ, zero, suc, ◌+◌, ◌*◌, ◌/◌, ◌%◌, List, [], ◌∷◌, length, bit_xor}

-- the generator polynomial, 0x11EDC6F41 from its highest power on, read from its lowest on and without its highest power
abbrev pub generator : ℕ
generator = 0x82F63B78

-- the register before a text, and what its remainder is complemented with
abbrev pub ones : ℕ
ones = 0xFFFFFFFF

-- one bit of the division by the generator: a bit that leaves takes the generator's multiple away
unfoldable pub next_bit : ℕ → ℕ
next_bit dividend = bit_xor (dividend / 2) (dividend % 2 * generator)

-- the remainder after so many bits of the division
unfoldable pub divided : ℕ → ℕ → ℕ
divided zero dividend = dividend
divided (suc bits) dividend = divided bits (next_bit dividend)

-- the octets as one number, the first octet lowest
unfoldable pub number_of : List ℕ → ℕ
number_of [] = 0
number_of (octet ∷ rest) = octet + 256 * number_of rest

-- the remainder of the octets, whose first bits the register is added to
abbrev pub remainder_from : ℕ → List ℕ → ℕ
remainder_from register octets = divided (8 * length octets) (bit_xor register (number_of octets))

-- the check of a text
abbrev pub crc32c : List ℕ → ℕ
crc32c octets = bit_xor (remainder_from ones octets) ones
