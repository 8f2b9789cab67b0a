-- Sources with their first steps past.
use Rattle.std.specs.Prelude.{ℕ, ◌+◌, ◌^◌, nat_lt, if◌then◌else◌, List, []}
use Rattle.mm_record.specs.Words.{SpacePacket}
use Rattle.mm_record.specs.declared.later.Later.{Later}

-- a source from after this step on
abbrev pub later : {S : Type 0} → ℕ → S → Later S
later after source = record { source = source; after = after }

-- what such a source gives in each step: what the source gives that many steps later, as far as steps can be numbered
abbrev pub later_gives : {S : Type 0} → (S → ℕ → List SpacePacket) → Later S → ℕ → List SpacePacket
later_gives gives later t = if nat_lt (t + later.after) (2 ^ 32) then gives later.source (t + later.after) else []
