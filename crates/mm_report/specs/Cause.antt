-- Why a run did not begin, or was halted, as a refusal.
use Rattle.mm_base.specs.declared.refusal.Refusal.{Refusal}
use Rattle.mm_base.specs.declared.refusal.Refusal.TheVariants as refusal
use Rattle.mm_report.specs.declared.cause.Cause.{Cause}
use Rattle.mm_report.specs.declared.cause.Cause.TheVariants.{NotFlyable, PlanShape, NotReady, SizeDiffers}
use Rattle.mm_report.specs.declared.cause.Cause.TheVariants.{OpeningDiffers, ChannelDiffers, ClockTooLate}
use Rattle.mm_report.specs.declared.cause.Cause.TheVariants.{PlanDoesNotFit, Counts, NoMemory, LinkFailed, LogMismatch}

-- which refusal it is
abbrev pub refusal_of : Cause → Refusal
refusal_of NotFlyable = refusal.NotFlyable
refusal_of PlanShape = refusal.PlanShape
refusal_of (NotReady store) = refusal.NotReady
refusal_of (SizeDiffers store) = refusal.SizeDiffers
refusal_of (OpeningDiffers store) = refusal.OpeningDiffers
refusal_of (ChannelDiffers store) = refusal.ChannelDiffers
refusal_of ClockTooLate = refusal.ClockTooLate
refusal_of (PlanDoesNotFit step) = refusal.PlanDoesNotFit
refusal_of Counts = refusal.Counts
refusal_of (NoMemory step) = refusal.NoMemoryInStep
refusal_of (LinkFailed step) = refusal.LinkFailed
refusal_of (LogMismatch step) = refusal.LogMismatch
