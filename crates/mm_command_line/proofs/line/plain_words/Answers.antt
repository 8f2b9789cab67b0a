use Rattle.std.proofs.Common.{slice_index_or, ℕ, List, Bor, ◌≡◌, ◌∙◌, ◌++◌, ◌+◌, [], ◌∷◌, true, false, map, drop, rules}
use Rattle.std.proofs.Common.{subst, ap}
use Rattle.std.proofs.lemmas.List.{get_or_default}
use Rattle.mm_command_line.specs.Lines.{IsFileName, is_dashes}
use Rattle.mm_command_line.proofs.Plain.{AreRead, added, at_word, read_after, read_dashes, read_name, rest_is}
use Rattle.mm_command_line.proofs.line.plain_words.Goals.{then-after_dashes+in_ok-push, else-after_dashes+then-eq}
use Rattle.mm_command_line.proofs.line.plain_words.Goals.{else-after_dashes+else-eq+then-is_file_name+in_ok-push-2}
use Rattle.mm_command_line.proofs.line.plain_words.Goals as goal

-- what a read of no word gives
abbrev none : Bor (List ℕ)
none = record { ref_ptr = (0, 0); now = [] }

pub returns-else-is_file_name-clause-flagged : goal.returns-else-is_file_name-clause-flagged
returns-else-is_file_name-clause-flagged c names =
    let words = c.args.words.now in
    let word = slice_index_or words c.loop-word.word-index none in
    let other : IsFileName word.now → ⊥ = search rules in
    other (at_word (λ (word : Bor (List ℕ)). word.now) IsFileName words c.loop-word.word-index word
    c.loop-word-test.true
    (get_or_default words c.loop-word.word-index none word c.loop-word-test.true) names)

pub loop-word-preserved : goal.loop-word-preserved
loop-word-preserved c =
    let text : Bor (List ℕ) → List ℕ = λ word. word.now in
    let words = c.args.words.now in
    let all = map text words in
    let item = slice_index_or words c.loop-word.word-index none in
    let read = map (λ word. word.now) c.loop-word.plain.items in
    let now = map (λ word. word.now) c.if-after_dashes.plain.items in
    let word = item.now in
    let rest = map text (drop (c.loop-word.word-index + 1) words) in
    let left = rest_is text words c.loop-word.word-index item c.loop-word-test.true
    (get_or_default words c.loop-word.word-index none item c.loop-word-test.true) in
    let so_far : AreRead all read c.loop-word.after_dashes (word ∷ rest) =
    subst (AreRead all read c.loop-word.after_dashes) left c.loop-word.invariant in
    elim c.if-after_dashes.branch [
      | then-after_dashes+in_ok-push w ↦
          let more : c.if-after_dashes.plain.items ≡ c.loop-word.plain.items ++ item ∷ [] = search rules in
          read_after all read now _ _ word rest so_far w.if-after_dashes.true
          (w.after_dashes-is ∙ w.if-after_dashes.true) (added _ _ item more)
      | else-after_dashes+then-eq w ↦
          let same : c.if-after_dashes.plain.items ≡ c.loop-word.plain.items = search rules in
          let dashes : is_dashes word ≡ true = search rules in
          read_dashes all read now _ _ word rest so_far w.if-after_dashes.false w.after_dashes-is
          (ap (map (λ word. word.now)) same) dashes
      | else-after_dashes+else-eq+then-is_file_name+in_ok-push-2 w ↦
          let more : c.if-after_dashes.plain.items ≡ c.loop-word.plain.items ++ item ∷ [] = search rules in
          let dashes : is_dashes word ≡ false = search rules in
          let name : IsFileName word = search rules in
          read_name all read now _ _ word rest so_far w.if-after_dashes.false
          (w.after_dashes-is ∙ w.if-after_dashes.false) (added _ _ item more) dashes name
    ]
