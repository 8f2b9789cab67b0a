-- Refusals of packets.
use Rattle.mm_base.specs.declared.refusal.Refusal.{Refusal}
use Rattle.mm_base.specs.declared.refusal.Refusal.TheVariants as refusal
use Rattle.mm_packet.specs.declared.fault.Fault.{Fault}
use Rattle.mm_packet.specs.declared.fault.Fault.TheVariants.{NoMemory, Short, Version, NoSecondaryHeader, PusVersion, Segmented, Idle, HeaderCut}

-- which refusal it is
abbrev pub refusal_of : Fault → Refusal
refusal_of = elim [
  | NoMemory ↦ refusal.NoMemory
  | Short ↦ refusal.Short
  | Version ↦ refusal.Version
  | Idle ↦ refusal.IdlePacket
  | NoSecondaryHeader ↦ refusal.NoSecondaryHeader
  | Segmented ↦ refusal.Segmented
  | HeaderCut ↦ refusal.HeaderCut
  | PusVersion ↦ refusal.PusVersion
]
