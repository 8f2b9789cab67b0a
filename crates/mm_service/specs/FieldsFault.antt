-- The refusals of the fields of a request.
use Rattle.mm_service.specs.Words.{Refusal, FieldsFault, Idle, Limit, UnknownSubtype, CountMismatch}
use Rattle.mm_service.specs.declared.requesting.FieldsFault.TheVariants.{NoMemory}
use Rattle.mm_base.specs.declared.refusal.Refusal.TheVariants as refusal

-- which refusal it is
abbrev pub refusal_of : FieldsFault → Refusal
refusal_of = elim [
  | NoMemory ↦ refusal.NoMemory
  | Idle ↦ refusal.IdlePacket
  | Limit ↦ refusal.Limit
  | UnknownSubtype ↦ refusal.UnknownSubtype
  | CountMismatch ↦ refusal.CountMismatch
]
