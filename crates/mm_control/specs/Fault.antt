-- The refusals of this crate.
use Rattle.mm_base.specs.declared.refusal.Refusal.{Refusal}
use Rattle.mm_base.specs.declared.refusal.Refusal.TheVariants as refusal
use Rattle.mm_control.specs.declared.fault.Fault.{Fault}
use Rattle.mm_control.specs.declared.fault.Fault.TheVariants.{NoSuchRoute, TableFull}

-- the refusal of each fault
abbrev pub refusal_of : Fault → Refusal
refusal_of = elim [ NoSuchRoute ↦ refusal.NoSuchRoute | TableFull ↦ refusal.TableFull ]
