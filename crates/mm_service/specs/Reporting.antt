-- The reports that wait, given one by one.
use Rattle.std.specs.Prelude.{◌≡◌, if◌then◌else◌, ◌∷◌}
use Rattle.mm_service.specs.Words.{ℕ, nat_le, List, [], length, SpacePacket, spelling, Reported, over}
use Rattle.mm_service.specs.declared.reporting.Reported.TheVariants.{Written, TooSmall, End}
use Rattle.mm_service.specs.Serving.{Serving}

-- the buffer with these octets at its head, or unchanged if there is no room for all of them
abbrev pub put : List ℕ → List ℕ → List ℕ
put octets buffer = if nat_le (length octets) (length buffer) then over octets buffer else buffer

-- what the call reports of these octets, by the room in the buffer
abbrev pub told_of : List ℕ → ℕ → Reported
told_of octets room = if nat_le (length octets) room then Written (length octets) else TooSmall (length octets)

-- the service without the first of the reports that wait, if that one was given
abbrev pub after : Reported → List SpacePacket → Serving → Serving
after (Written n) rest s = record s { waiting = rest }
after other rest s = s

-- the first of these reports is given, where there is one and there is room for it
abbrev pub Reports : List SpacePacket → Reported → Serving → Serving → List ℕ → List ℕ → Type 0
Reports [] told s t old new = (told ≡ End) × (t ≡ s) × (new ≡ old)
Reports (packet ∷ rest) told s t old new =
    (told ≡ told_of (spelling packet) (length old)) × (t ≡ after told rest s) × (new ≡ put (spelling packet) old)
