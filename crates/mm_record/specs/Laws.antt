-- Laws of stores that are lent to recorders.
use Rattle.std.specs.Prelude.{List, map}
use Rattle.mm_record.specs.Words.{Held, AreHeld, AreNamed}

-- no two of the stores that a memory holds have one identifier
abbrev pub HeldAreNamed : Type 0
HeldAreNamed = (stores : List Held) → AreHeld stores → AreNamed (map (λ h. h.id) stores)
