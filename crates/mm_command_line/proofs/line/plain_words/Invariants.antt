use Rattle.std.proofs.Common.{map, drop}
use Rattle.mm_command_line.proofs.Plain.{AreRead}
use Rattle.mm_command_line.proofs.line.plain_words.Given as goal

abbrev pub invariant-loop-word : goal.invariant-loop-word
invariant-loop-word l =
    AreRead (map (λ word. word.now) l.fn.words) (map (λ word. word.now) l.plain.items) l.after_dashes
    (map (λ word. word.now) (drop l.word-index l.words))
