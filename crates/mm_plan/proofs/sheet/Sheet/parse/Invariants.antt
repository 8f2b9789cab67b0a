use Rattle.std.proofs.Common.{length}
use Rattle.mm_plan.proofs.Texts.{IsReadTo}
use Rattle.mm_plan.proofs.sheet.Sheet.parse.Given as goal

abbrev pub invariant-loop-front : goal.invariant-loop-front
invariant-loop-front l = IsReadTo l.fn.text l.draft l.rest l.line

abbrev pub decreases-loop-front : goal.decreases-loop-front
decreases-loop-front l = length l.rest
