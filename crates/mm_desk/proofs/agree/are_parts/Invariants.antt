use Rattle.mm_desk.proofs.Words.{ℕ, ◌<◌, slice_index_or, new_seat}
use Rattle.mm_desk.specs.Agreeing.{HasItsPart}
use Rattle.mm_desk.proofs.agree.are_parts.Given as goal

abbrev pub invariant-loop-i : goal.invariant-loop-i
invariant-loop-i g l = (j : ℕ) → j < l.i → HasItsPart j l.log (slice_index_or l.seats j (new_seat 0 0))
