-- Why a packet is no request, and no report.
use Rattle.mm_base.specs.declared.refusal.Refusal.{Refusal}
use Rattle.mm_base.specs.declared.refusal.Refusal.TheVariants as refusal
use Rattle.mm_st15.specs.declared.fault.Fault.{Fault}
use Rattle.mm_st15.specs.declared.fault.Fault.TheVariants.{NoMemory, NotSt15, UnknownSubtype, CountMismatch}

-- which refusal it is
abbrev pub refusal_of : Fault → Refusal
refusal_of = elim [
  | NoMemory ↦ refusal.NoMemory
  | NotSt15 ↦ refusal.NotSt15
  | UnknownSubtype ↦ refusal.UnknownSubtype
  | CountMismatch ↦ refusal.CountMismatch
]
