use Rattle.std.proofs.Common.{◌≡◌, take}
use Rattle.std.specs.Prelude.{fold}
use Rattle.mm_ask.specs.Answering.{outcome_after}
use Rattle.mm_ask.proofs.answering.Outcome.after.Given as goal

abbrev pub invariant-loop-answer : goal.invariant-loop-answer
invariant-loop-answer l = l.outcome ≡ fold outcome_after l.fn.self (take l.answer-index l.answers)
