use Rattle.std.proofs.Common.{◌≡◌, ◌+◌, ◌++◌, length}
use Rattle.mm_ask.specs.PacketWords.{instruction_lines}
use Rattle.mm_ask.proofs.packet_words.push_instructions.Given as goal

abbrev pub invariant-loop-rest : goal.invariant-loop-rest
invariant-loop-rest g l = record {
  text : l.text.items ++ instruction_lines g.E.InWords.words l.number l.place l.rest ≡ l.initial.text.items ++ instruction_lines g.E.InWords.words l.number 1 l.entries;
  place : l.place + length l.rest ≡ 1 + length l.entries;
}

abbrev pub decreases-loop-rest : goal.decreases-loop-rest
decreases-loop-rest g l = length l.rest
