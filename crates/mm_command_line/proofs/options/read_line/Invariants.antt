use Rattle.std.proofs.Common.{◌≡◌, map, drop, fold}
use Rattle.mm_command_line.specs.Lines.{parts_in, parts_of, read_word}
use Rattle.mm_command_line.proofs.options.read_line.Given as goal

-- with the words that are left the parts are those of all
abbrev pub invariant-loop-word : goal.invariant-loop-word
invariant-loop-word g l =
    fold read_word (parts_in l.line) (map g.S.AsStr.text (drop l.word-index l.words))
    ≡ parts_of (map g.S.AsStr.text l.words)
