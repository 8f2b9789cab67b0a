-- Number fields: a number that was written is read again.
use Rattle.std.proofs.Common.{◌≡◌, ℕ, ◌^◌, ◌<◌, List, ◌++◌, length, Some, refl, arith, length-append}
use Rattle.std.specs.Int.{Width, w16, w64, byte_len, from_be_bytes, to_be_bytes}
use Rattle.std.proofs.lemmas.Bool.{le-ltb}
use Rattle.std.proofs.lemmas.List.{take_at, drop_at}
use Rattle.std.proofs.lemmas.Nat.{from_be_bytes-to_be_bytes_2, from_be_bytes-to_be_bytes_8}
use Rattle.mm_base.specs.NumberFields.{number_at}

-- octets of a field's length are read as the number that they spell, whatever follows
spelled_first : (w : Width) (field rest : List ℕ) (n : ℕ) → length field ≡ byte_len w → from_be_bytes w field ≡ n
    → number_at w (field ++ rest) ≡ Some (n, rest)
spelled_first w field rest n as_long spelled =
    rw (
      le-ltb (length (field ++ rest)) (byte_len w) (omega (arith, as_long, length-append field rest)),
      take_at field rest (byte_len w) as_long,
      drop_at field rest (byte_len w) as_long,
      spelled,
    )
    refl

-- a number written in two octets is read again
pub number16_again : (n : ℕ) (rest : List ℕ) → n < 2 ^ 16 → number_at w16 (to_be_bytes w16 n ++ rest) ≡ Some (n, rest)
number16_again n rest small = spelled_first w16 (to_be_bytes w16 n) rest n refl (from_be_bytes-to_be_bytes_2 n small)

-- a number written in eight octets is read again
pub number64_again : (n : ℕ) (rest : List ℕ) → n < 2 ^ 64 → number_at w64 (to_be_bytes w64 n ++ rest) ≡ Some (n, rest)
number64_again n rest small = spelled_first w64 (to_be_bytes w64 n) rest n refl (from_be_bytes-to_be_bytes_8 n small)
