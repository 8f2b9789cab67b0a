-- Words without the first `--`, read one after another.
use Rattle.std.proofs.Common.{◌≡◌, ◌∙◌, ◌++◌, ◌+◌, ◌<◌, ℕ, zero, suc, arith, Bool, Bor, cond, true, false, refl}
use Rattle.std.proofs.Common.{sym, ap, ap₂, map, drop, length, slice_index_or, List, [], ◌∷◌, Option, Some, None}
use Rattle.std.proofs.Common.{IfNone, IfSome, append_assoc, subst}
use Rattle.std.specs.List.{All}
use Rattle.std.proofs.lemmas.List.{append-nil, length-map, map-append}
use Rattle.std.proofs.lemmas.List.Elements.{All-cons, All-head, All-nil, All-tail}
use Rattle.std.proofs.Math.Seq.{drop-cons}
use Rattle.mm_command_line.specs.Lines.{ArePlain, IsFileName, command_words, before_dashes, is_dashes, without_dashes}
use Rattle.mm_command_line.specs.declared.task.Task.{Task}

abbrev Text : Type 0
Text = List ℕ

abbrev left : Bool → List Text → List Text
left true words = words
left false words = without_dashes words

-- those before the `--`
abbrev unread : Bool → List Text → List Text
unread true words = []
unread false words = before_dashes words

-- these words are read of all, and those of `rest` are left, after the `--` or before it
pub record AreRead (all read : List Text) (after_dashes : Bool) (rest : List Text) : Type 0 where
  pub same : read ++ left after_dashes rest ≡ without_dashes all
  pub names : All IsFileName (unread after_dashes rest) → All IsFileName (before_dashes all)

pub none_read : (all : List Text) → AreRead all [] false all
none_read all = record { same = refl; names = λ names. names }

module _ (all read now : List Text) (before after : Bool) (word : Text) (rest : List Text)
    (so_far : AreRead all read before (word ∷ rest)) where
  pub read_after : before ≡ true → after ≡ true → now ≡ read ++ word ∷ [] → AreRead all now after rest
  read_after was is more =
      let same = ap (λ b. read ++ left b (word ∷ rest)) (sym was) ∙ so_far.same in
      rw (more, is) (record {
        same = append_assoc read (word ∷ []) rest ∙ same;
        names = λ left. so_far.names
            (subst (λ b. All IsFileName (unread b (word ∷ rest))) (sym was) (All-nil IsFileName));
      })

  pub read_dashes : before ≡ false → after ≡ true → now ≡ read → is_dashes word ≡ true → AreRead all now after rest
  read_dashes was is same dashes = rw (same, is) (record {
    same = ap (λ b. read ++ cond b rest (word ∷ without_dashes rest)) (sym dashes)
        ∙ ap (λ b. read ++ left b (word ∷ rest)) (sym was) ∙ so_far.same;
    names = λ left. so_far.names (subst (λ b. All IsFileName (unread b (word ∷ rest))) (sym was)
        (subst (λ b. All IsFileName (cond b [] (word ∷ before_dashes rest))) (sym dashes) (All-nil IsFileName)));
  })

  pub read_name : before ≡ false → after ≡ false → now ≡ read ++ word ∷ [] → is_dashes word ≡ false → IsFileName word
      → AreRead all now after rest
  read_name was is more dashes name = rw (more, is) (record {
    same = append_assoc read (word ∷ []) (without_dashes rest)
        ∙ ap (λ b. read ++ cond b rest (word ∷ without_dashes rest)) (sym dashes)
        ∙ ap (λ b. read ++ left b (word ∷ rest)) (sym was) ∙ so_far.same;
    names = λ left. so_far.names (subst (λ b. All IsFileName (unread b (word ∷ rest))) (sym was)
        (subst (λ b. All IsFileName (cond b [] (word ∷ before_dashes rest))) (sym dashes)
        (All-cons IsFileName word (before_dashes rest) name left)));
  })

-- a word more
pub added : (items new : List (Bor Text)) (word : Bor Text) → new ≡ items ++ word ∷ []
    → map (λ w. w.now) new ≡ map (λ w. w.now) items ++ word.now ∷ []
added items new word is =
    ap (map (λ (w : Bor Text). w.now)) is ∙ map-append (λ (w : Bor Text). w.now) items (word ∷ [])

module _ {A : Type 0} (text : A → Text) where
  -- the words that are left begin with the next one
  pub rest_is : (words : List A) (i : ℕ) (word : A) → i < length words → word ≡ slice_index_or words i word
      → map text (drop i words) ≡ text word ∷ map text (drop (i + 1) words)
  rest_is words i word within is =
      let next : suc i ≡ i + 1 = omega arith in
      ap (map text) (drop-cons words i word within) ∙ ap₂ (λ w n. text w ∷ map text (drop n words)) (sym is) next

  pub at_word : (P : Text → Type 0) (words : List A) (i : ℕ) (word : A) → i < length words
      → word ≡ slice_index_or words i word → All P (map text words) → P (text word)
  at_word P [] i word within is all = absurd (omega (arith, within))
  at_word P (w ∷ ws) zero word within is all = subst P (ap text (sym is)) (All-head P (text w) (map text ws) all)
  at_word P (w ∷ ws) (suc i) word within is all =
      at_word P ws i word (omega (arith, within)) is (All-tail P (text w) (map text ws) all)

pub all_read : (all read : List Text) (after_dashes : Bool) → AreRead all read after_dashes [] → ArePlain all read
all_read all read true so_far = record {
  same = sym (append-nil read) ∙ so_far.same;
  names = so_far.names (All-nil IsFileName);
}
all_read all read false so_far = record {
  same = sym (append-nil read) ∙ so_far.same;
  names = so_far.names (All-nil IsFileName);
}

-- the task that they ask for
pub task_read : (words plain : List Text) → ArePlain words plain → (task : Option Task)
    → IfSome task (λ task. command_words task ≡ plain) → IfSome task (λ task. ArePlain words (command_words task))
task_read words plain is None spelled = tt
task_read words plain is (Some task) spelled = subst (ArePlain words) (sym spelled) is

-- where the words are no task, neither are those that equal them
pub still_none : {X Y : Type 0} (task : Option Task) → IfNone task X → (X → Y) → IfNone task Y
still_none None none gives = gives none
still_none (Some task) none gives = tt

-- words that spell a line
module _ (words : List (Bor Text)) (line : List Text) (is : line ≡ map (λ word. word.now) words) where
  pub count_is : length words ≡ length line
  count_is = sym (length-map words (λ (word : Bor Text). word.now)) ∙ ap length (sym is)

  -- as a slice pattern reads the first of them
  pub first_is : (slice_index_or words 0 (record { ref_ptr = (0, 0); now = [] })).now ≡ slice_index_or line 0 []
  first_is = sym (ap (λ l. slice_index_or l 0 []) is ∙ mapped words)
    where
      mapped : (words : List (Bor Text))
          → slice_index_or (map (λ (word : Bor Text). word.now) words) 0 []
          ≡ (slice_index_or words 0 (record { ref_ptr = (0, 0); now = [] })).now
      mapped [] = refl
      mapped (word ∷ rest) = refl
