use Rattle.std.proofs.Common.{◌≡◌, ℕ, ◌<◌, ◌&&◌, ◌||◌, false, length, get_or, ltb, leb}
use Rattle.mm_chart.proofs.shades.mark.Given as goal

-- of the steps so far
abbrev pub invariant-loop-step : goal.invariant-loop-step
invariant-loop-step l = (t : ℕ) → t < length l.initial.marks → get_or l.marks t false ≡ (get_or l.initial.marks t false || (leb l.first t && ltb t l.step))
