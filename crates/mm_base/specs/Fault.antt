-- The refusals of this crate.
use Rattle.mm_base.specs.declared.fault.Fault.{Fault}
use Rattle.mm_base.specs.declared.fault.Fault.TheVariants.{BadId, BadEnum}
use Rattle.mm_base.specs.declared.refusal.Refusal.{Refusal}
use Rattle.mm_base.specs.declared.refusal.Refusal.TheVariants as refusal

-- the refusal of each fault
abbrev pub refusal_of : Fault → Refusal
refusal_of = elim [ BadId ↦ refusal.BadId | BadEnum ↦ refusal.BadEnum ]
