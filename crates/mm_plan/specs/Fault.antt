-- The refusals of this crate, and what a refused plan text is told.
use Rattle.std.specs.Prelude.{ℕ, List}
use Rattle.mm_base.specs.declared.refusal.Refusal.{Refusal}
use Rattle.mm_base.specs.declared.refusal.Refusal.TheVariants as refusal
use Rattle.mm_plan.specs.declared.fault.Fault.{Fault}
use Rattle.mm_plan.specs.declared.fault.Fault.TheVariants.{NoMemory, PlanText, Shape}
use Rattle.mm_plan.specs.Sheet.{IsFirstBadLine}

-- which refusal it is
abbrev pub refusal_of : Fault → Refusal
refusal_of = elim [ NoMemory ↦ refusal.NoMemory | PlanText line ↦ refusal.PlanText | Shape ↦ refusal.Shape ]

-- what a text that is no sheet's is told: its first bad line
abbrev pub IsTextFault : List ℕ → Fault → Type 0
IsTextFault text (PlanText line) = IsFirstBadLine text line
IsTextFault text NoMemory = ⊥
IsTextFault text Shape = ⊥
