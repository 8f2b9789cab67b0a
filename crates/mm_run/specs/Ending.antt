-- The lines on why a run did not begin, or was halted.
use Rattle.std.specs.Prelude.{ℕ, List, [], ◌∷◌, ◌++◌, codes, decimal, Option, Some, None}
use Rattle.mm_base.specs.Characters.{line_feed, space}
use Rattle.mm_base.specs.Id.{id_text}
use Rattle.mm_base.specs.Refusals.{number_of, name_of}
use Rattle.mm_base.specs.declared.refusal.Refusal.{Refusal}
use Rattle.mm_base.specs.declared.refusal.Refusal.TheVariants as refusal
use Rattle.mm_report.specs.Cause.{refusal_of}
use Rattle.mm_report.specs.declared.cause.Cause.{Cause}
use Rattle.mm_report.specs.declared.cause.Cause.TheVariants.{NotReady, SizeDiffers, OpeningDiffers, ChannelDiffers}
use Rattle.mm_report.specs.declared.cause.Cause.TheVariants.{PlanDoesNotFit, NoMemory, LinkFailed, LogMismatch}

-- a number below 2^32 has at most this many digits, the name of a cause at most this many letters, and an identifier
-- this many
abbrev pub NUMBER : ℕ
NUMBER = 10

abbrev pub NAME : ℕ
NAME = 20

abbrev pub ID : ℕ
ID = 8

-- the number and the name of a refusal
abbrev pub refusal_text : Refusal → List ℕ
refusal_text r = decimal (number_of r) ++ space ∷ name_of r

-- the store or the step that a refusal names
abbrev pub field_text : Cause → List ℕ
field_text (NotReady store) = codes " store " ++ id_text store
field_text (SizeDiffers store) = codes " store " ++ id_text store
field_text (OpeningDiffers store) = codes " store " ++ id_text store
field_text (ChannelDiffers store) = codes " store " ++ id_text store
field_text (PlanDoesNotFit step) = codes " step " ++ decimal step
field_text cause = []

-- the step in which the run was halted, 0 before the first; a run that did not begin was not halted
abbrev pub step_of : Cause → Option ℕ
step_of (NoMemory step) = Some step
step_of (LinkFailed step) = Some step
step_of (LogMismatch step) = Some step
step_of cause = None

-- why the run did not begin
abbrev pub refused_line : Cause → List ℕ
refused_line cause = codes "refused " ++ refusal_text (refusal_of cause) ++ field_text cause ++ line_feed ∷ []

-- why the run was halted in this step
abbrev pub halted_line : ℕ → Cause → List ℕ
halted_line step cause =
    codes "halted step " ++ decimal step ++ space ∷ refusal_text (refusal_of cause) ++ line_feed ∷ []

-- the last line of a run that was not carried out whole
abbrev pub end_line : Cause → List ℕ
end_line cause = line (step_of cause)
  where
    line : Option ℕ → List ℕ
    line (Some step) = halted_line step cause
    line None = refused_line cause

-- the line that replaces a text for which there is no memory
abbrev pub lacking_line : List ℕ
lacking_line = codes "refused " ++ refusal_text refusal.NoMemory ++ line_feed ∷ []
