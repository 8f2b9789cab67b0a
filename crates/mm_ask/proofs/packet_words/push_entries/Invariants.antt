use Rattle.std.proofs.Common.{◌≡◌, ◌++◌, length}
use Rattle.mm_ask.specs.PacketWords.{entry_lines}
use Rattle.mm_ask.proofs.packet_words.push_entries.Given as goal

abbrev pub invariant-loop-rest : goal.invariant-loop-rest
invariant-loop-rest g l = l.text.items ++ entry_lines g.E.InWords.words l.rest ≡ l.initial.text.items ++ entry_lines g.E.InWords.words l.entries

abbrev pub decreases-loop-rest : goal.decreases-loop-rest
decreases-loop-rest g l = length l.rest
