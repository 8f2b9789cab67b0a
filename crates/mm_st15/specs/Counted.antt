-- A count of one octet, and entries of fixed width after it.
use Rattle.std.specs.Prelude.{ℕ, ◌*◌, ◌==◌, ◌||◌, nat_lt, not, List, [], ◌∷◌, length, Option, Some, None, if◌then◌else◌}

-- the count and the octets after it, if these are that many entries, and no fewer than the least number
abbrev pub counted_at : (least width : ℕ) → List ℕ → Option (ℕ × List ℕ)
counted_at least width [] = None
counted_at least width (count ∷ octets) =
    if nat_lt count least || not (length octets == count * width) then None else Some (count, octets)
