use Rattle.std.proofs.Common.{◌≡◌, ◌+◌, ◌++◌, length}
use Rattle.mm_ask.specs.Text.{answer_lines}
use Rattle.mm_ask.proofs.text.push_answer_lines.Given as goal

abbrev pub invariant-loop-rest : goal.invariant-loop-rest
invariant-loop-rest l = record {
  text : l.text.items ++ answer_lines l.line l.place l.rest ≡ l.initial.text.items ++ answer_lines l.line 1 l.answers;
  place : l.place + length l.rest ≡ 1 + length l.answers;
}

abbrev pub decreases-loop-rest : goal.decreases-loop-rest
decreases-loop-rest l = length l.rest
