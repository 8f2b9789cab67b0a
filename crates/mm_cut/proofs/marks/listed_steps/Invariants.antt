use Rattle.std.proofs.Common.{◌≡◌, ℕ, ◌<◌, false, length, get_or, take}
use Rattle.mm_cut.specs.Counts.{is_listed}
use Rattle.mm_cut.specs.declared.marks.TheConstants.{STEP_PLACES}
use Rattle.mm_cut.proofs.marks.listed_steps.Given as goal

-- of the steps so far
abbrev pub invariant-loop-step : goal.invariant-loop-step
invariant-loop-step l = record {
  places : length l.listed ≡ STEP_PLACES;
  listed : (t : ℕ) → t < STEP_PLACES → get_or l.listed t false ≡ is_listed (take l.step-index l.steps) t;
}
