-- The refusals of this crate.
use Rattle.mm_base.specs.declared.refusal.Refusal.{Refusal}
use Rattle.mm_base.specs.declared.refusal.Refusal.TheVariants as refusal
use Rattle.mm_run.specs.declared.script_fault.ScriptFault.{ScriptFault}
use Rattle.mm_run.specs.declared.script_fault.ScriptFault.TheVariants.{NoMemory, SourcesText, LinksText}

-- which refusal a fault is
abbrev pub refusal_of : ScriptFault → Refusal
refusal_of NoMemory = refusal.NoMemory
refusal_of (SourcesText line) = refusal.SourcesText
refusal_of (LinksText line) = refusal.LinksText
