-- The packets of a text of sources that go to no store.
use Rattle.std.specs.Prelude.{◌≡◌, ℕ, ◌+◌, ◌&&◌, nat_lt, not, Bool, true, false, List, count_by, All, IsTrue, Ok}
use Rattle.std.specs.List.{list_any}
use Rattle.mm_packet.specs.declared.header.PacketType.{PacketType}
use Rattle.mm_packet.specs.declared.header.PacketType.TheVariants.{Telecommand, Telemetry}
use Rattle.mm_memory.specs.Holdings.{has_id}
use Rattle.mm_memory.specs.Recording.{is_routed}
use Rattle.mm_run.specs.Types.{SpacePacket, Holdings, SourceLine}
use Rattle.mm_run.specs.Sources.{source_lines_of}
use Rattle.mm_run.specs.declared.untaken.Unstored.{Unstored}

-- whether the packet of a line is of a step after the last one
abbrev pub is_late : ℕ → SourceLine → Bool
is_late steps d = nat_lt steps d.step

-- whether a packet is a telecommand
abbrev pub is_telecommand : PacketType → Bool
is_telecommand (Telecommand source) = true
is_telecommand (Telemetry counter destination time) = false

-- whether no route takes a packet into a store
abbrev pub is_untaken : Holdings → SpacePacket → Bool
is_untaken memory p = not (list_any (λ h. is_routed memory.routes h.id p) memory.stores)

-- each route leads to a store
abbrev pub HasRoutesToStores : Holdings → Type 0
HasRoutesToStores memory = All (λ r. IsTrue (list_any (has_id r.store) memory.stores)) memory.routes

-- the numbers of packets that go to no store are those of the lines, for a run of this many steps over this memory: the
-- packets of later steps; and of the others those that no route takes, and how many of these are telecommands
pub record Counts (steps : ℕ) (memory : Holdings) (lines : List SourceLine) (n : Unstored) : Type 0 where
  pub late : n.late ≡ count_by (is_late steps) lines
  pub telecommands : n.telecommands ≡ count_by (λ d. not (is_late steps d) && is_telecommand d.packet.kind) lines
  pub untaken : n.telecommands + n.unrouted
      ≡ count_by (λ d. not (is_late steps d) && is_untaken memory d.packet) lines

-- the numbers are those of the lines of the text
abbrev pub CountsOf : ℕ → Holdings → List ℕ → Unstored → Type 0
CountsOf steps memory text n =
    (lines : List SourceLine) → source_lines_of text ≡ Ok lines → Counts steps memory lines n
