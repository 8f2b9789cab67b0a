use Rattle.std.proofs.Common.{◌≡◌, ℕ, ◌&&◌, ◌||◌, false, get_or, ltb, leb}
use Rattle.mm_cut.proofs.marks.mark_inner.Given as goal

-- of the steps so far
abbrev pub invariant-loop-step : goal.invariant-loop-step
invariant-loop-step l = (t : ℕ) → get_or l.inner t false ≡ (get_or l.initial.inner t false || (leb l.stretch.first t && ltb t l.step))
