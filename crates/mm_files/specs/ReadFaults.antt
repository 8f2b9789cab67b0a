-- Which refusal each reason is for which a file is not read.
use Rattle.std.specs.Prelude.{Bool, true, false}
use Rattle.mm_base.specs.declared.refusal.Refusal.{Refusal}
use Rattle.mm_base.specs.declared.refusal.Refusal.TheVariants as refusal
use Rattle.mm_files.specs.declared.files.ReadFault.{ReadFault}
use Rattle.mm_files.specs.declared.files.ReadFault.TheVariants.{NoMemory, NotRead}

-- which refusal a reason is
abbrev pub refusal_of : ReadFault → Refusal
refusal_of NoMemory = refusal.NoMemory
refusal_of (NotRead obstacle) = refusal.NotRead

-- the file was not read; the other reason is that memory ran out
abbrev pub is_unread : ReadFault → Bool
is_unread NoMemory = false
is_unread (NotRead obstacle) = true
