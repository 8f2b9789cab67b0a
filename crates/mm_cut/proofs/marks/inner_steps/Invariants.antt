use Rattle.std.proofs.Common.{◌≡◌, ℕ, false, length, get_or, take}
use Rattle.mm_cut.specs.Stretches.{is_inner}
use Rattle.mm_cut.specs.declared.marks.TheConstants.{STEP_PLACES}
use Rattle.mm_cut.proofs.marks.inner_steps.Given as goal

-- of the stretches so far
abbrev pub invariant-loop-stretch : goal.invariant-loop-stretch
invariant-loop-stretch l = record {
  places : length l.inner ≡ STEP_PLACES;
  inner : (t : ℕ) → get_or l.inner t false ≡ is_inner l.problem (take l.stretch-index l.stretches) t;
}
