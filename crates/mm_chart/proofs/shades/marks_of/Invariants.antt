use Rattle.std.proofs.Common.{◌≡◌, ℕ, ◌<◌, false, length, get_or, take}
use Rattle.std.specs.List.{list_any}
use Rattle.mm_cut.specs.declared.marks.TheConstants.{STEP_PLACES}
use Rattle.mm_chart.specs.Shading.{is_asked}
use Rattle.mm_chart.proofs.shades.marks_of.Given as goal

-- of the stretches so far
abbrev pub invariant-loop-shade : goal.invariant-loop-shade
invariant-loop-shade l = record {
  places : length l.marks ≡ STEP_PLACES;
  marks : (t : ℕ) → t < STEP_PLACES → get_or l.marks t false
      ≡ list_any (is_asked l.series t) (take l.shade-index l.shades);
}
