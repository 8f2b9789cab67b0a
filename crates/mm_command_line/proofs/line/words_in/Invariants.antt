use Rattle.std.proofs.Common.{◌≡◌, ◌++◌, ◌∷◌, map, drop}
use Rattle.clap.specs.Words.{found_of}
use Rattle.mm_command_line.proofs.Finding.{names_left}
use Rattle.mm_command_line.proofs.line.words_in.Given as goal

-- with the names that are left the words are whole
abbrev pub invariant-loop-file : goal.invariant-loop-file
invariant-loop-file l =
    map (λ word. word.now) l.words.items ++ names_left (found_of l.files)
    (drop l.file-index l.form.files.now) ≡ l.form.word.now ∷ names_left (found_of l.files) l.form.files.now
