-- Each line of a sheet is read from its text, and what is read is the text of a line.
use Rattle.std.proofs.Common.{◌≡◌, ℕ, ◌<◌, ◌≤◌, true, cond, ◌==◌, List, [], ◌∷◌, length, map, take, Option}
use Rattle.std.proofs.Common.{Some, None, refl, sym, ap, ◌∙◌, subst, inl, inr, arith, length-take}
use Rattle.std.specs.Prelude.{All, codes, decimal, nat_lt, option_map}
use Rattle.std.specs.List.{slice_split, list_all, join_with_byte}
use Rattle.std.specs.Str.{bytes_eq}
use Rattle.std.proofs.NetLemmas.Options.{map_some}
use Rattle.std.proofs.lemmas.Bool.{cases_Bool, le-ltb, lt-ltb, ltb-false}
use Rattle.std.proofs.lemmas.List.{length-map, take_all}
use Rattle.std.proofs.lemmas.List.Elements.{All-cons, All-weaker}
use Rattle.std.proofs.lemmas.List.Splits.{join_with_byte-slice_split}
use Rattle.std.proofs.lemmas.Option.{none-some}
use Rattle.std.proofs.lemmas.Slice.Eq.{bytes_eq-Decides}
use Rattle.mm_base.specs.declared.limits.TheConstants.{MAX_STEPS, MAX_BLOCKS}
use Rattle.mm_base.specs.Id.{IsIdField, id_text}
use Rattle.mm_plan.specs.Sheet.{Line, title_line, stores_line, dump_line, loss_line, stretch_line, count_line}
use Rattle.mm_plan.specs.Sheet.{bound_line, first_line, end_line, IsLine, words, line_text}
use Rattle.mm_plan.specs.Reading.{MAX_U32, MAX_U64, line_words, number_of, next, each, word, stretch_by}
use Rattle.mm_plan.specs.Reading.{id_of, only, stores_of, dump_of, stretch_of, count_of, end_of, word_line}
use Rattle.mm_plan.specs.Reading.{line_of, IsRead}
use Rattle.mm_plan.proofs.Spelled.{Lacks, IsBare, bare_lacks, bare_tested, slice_split-join, join_lacks}
use Rattle.mm_plan.proofs.Saying.{Reads, one_value, numbers, ids, forms, given, signed, none}
use Rattle.mm_plan.proofs.Saying.{only_read, all_read, next_read}

-- ---- the words of a line are read as the line

-- numbers of 32 bits are read
u32s : Reads IsBare (λ n. n ≤ MAX_U32) decimal (number_of MAX_U32)
u32s = numbers MAX_U32 (omega arith)

-- numbers of 64 bits are read
u64s : Reads IsBare (λ n. n ≤ MAX_U64) decimal (number_of MAX_U64)
u64s = numbers MAX_U64 (omega arith)

-- the words of a stretch are read
stretches : Reads (All IsBare) (λ p. IsIdField p.0 × ((p.1.0 ≤ MAX_U32) × (p.1.1 ≤ MAX_U32)))
    (λ p. id_text p.0 ∷ decimal p.1.0 ∷ decimal p.1.1 ∷ [])
    (next id_of (next (number_of MAX_U32) (only (number_of MAX_U32))))
stretches = next_read ids (next_read u32s (only_read u32s))

-- those of a counted step are read
counts : Reads (All IsBare) (λ p. (p.0 ≤ MAX_U32) × Unit {0}) (λ p. decimal p.0 ∷ codes "channels" ∷ [])
    (next (number_of MAX_U32) (only (word (codes "channels"))))
counts = next_read u32s (only_read (given (codes "channels") (bare_tested (codes "channels") refl)))

-- steps and amounts are read
dumps : Reads (All IsBare) (λ p. (p.0 ≤ MAX_STEPS) × All (λ n. n ≤ MAX_BLOCKS) p.1)
    (λ p. decimal p.0 ∷ map decimal p.1) (next (number_of MAX_STEPS) (each (number_of MAX_BLOCKS) []))
dumps = next_read (numbers MAX_STEPS (omega arith)) (all_read (numbers MAX_BLOCKS (omega arith)))

-- the words that a line was printed of are read again, and are bare
shown : {A : Type 0} {P : A → Type 0} {print : A → List (List ℕ)} {read : List (List ℕ) → Option A} (key : List ℕ)
    → list_all (λ b. nat_lt 32 b) key ≡ true → (line : A → Line) → Reads (All IsBare) P print read → (a : A) → P a
    → (option_map line (read (print a)) ≡ Some (line a)) × All IsBare (key ∷ print a)
shown key bare line r a h =
    (ap (option_map line) (r.again a h), All-cons IsBare key _ (bare_tested key bare) (r.good a h))

-- those of each line
line_shown : (x : Line) → IsLine x → (line_of (words x) ≡ Some x) × All IsBare (words x)
unfolding line_of stores_of dump_of stretch_of count_of end_of word_line
line_shown (title_line f) h = shown (codes "mmplan") refl title_line (only_read forms) f tt
line_shown (stores_line fs) h = shown (codes "stores") refl stores_line (all_read ids) fs h.1
line_shown (dump_line t xs) h = shown (codes "dump") refl (λ p. dump_line p.0 p.1) dumps (t, xs) (h.0, h.2)
line_shown (loss_line n) h = shown (codes "loss") refl loss_line (only_read u64s) n (omega (arith, h))
line_shown (stretch_line d) h =
    shown (codes "stretch") refl stretch_by stretches
    (d.store, (d.first, d.last)) (h.store, (omega (arith, h.first), omega (arith, h.last)))
line_shown (count_line t) h =
    shown (codes "count") refl (λ p. count_line p.0) counts (t, tt) (omega (arith, h), tt)
line_shown (bound_line z) h = shown (codes "bound") refl bound_line (only_read signed) z h
line_shown (first_line k) h = shown (codes "first") refl first_line (only_read u32s) k (omega (arith, h))
line_shown end_line h = shown (codes "end") refl (λ u. end_line) none tt tt

-- a line that is read is that of the words
abbrev IsOf : List (List ℕ) → Option Line → Type 0
IsOf ws o = (x : Line) → o ≡ Some x → IsLine x × (ws ≡ words x)

-- where the keyword is this one, the line of the words after it, and else another
keyed : {A : Type 0} {P : A → Type 0} {print : A → List (List ℕ)} {read : List (List ℕ) → Option A}
    (key k : List ℕ) (ws : List (List ℕ)) (line : A → Line) (other : Option Line) → Reads (All IsBare) P print read
    → ((a : A) → words (line a) ≡ key ∷ print a) → ((a : A) → P a → ws ≡ print a → IsLine (line a))
    → IsOf (k ∷ ws) other → IsOf (k ∷ ws) (cond (bytes_eq k key) (option_map line (read ws)) other)
keyed {read = read} key k ws line other r shown is rest = λ x e. elim (cases_Bool (bytes_eq k key)) [
  | inl same ↦ map_some line (read ws) x (rw same at e) (λ a here made.
      let p = r.is ws a here in
      let all : k ∷ ws ≡ words (line a) = cc ((bytes_eq-Decides k key).0 same, p.1, shown a) in
      subst (λ y. IsLine y × (k ∷ ws ≡ words y)) made (is a p.0 p.1, all))
  | inr differs ↦ rest x (rw differs at e)
]

-- what is read of a keyword and a word is theirs
word_line-is : (k : List ℕ) (ws : List (List ℕ)) → IsOf (k ∷ ws) (only (word_line k) ws)
unfolding word_line
word_line-is k (w ∷ []) =
    keyed (codes "mmplan") k (w ∷ []) title_line _ (only_read forms) (λ a. refl) (λ a h is. tt)
    (keyed (codes "loss") k (w ∷ []) loss_line _ (only_read u64s) (λ a. refl) (λ a h is. omega (arith, h))
    (keyed (codes "bound") k (w ∷ []) bound_line _ (only_read signed) (λ a. refl) (λ a h is. h)
    (keyed (codes "first") k (w ∷ []) first_line _ (only_read u32s) (λ a. refl) (λ a h is. omega (arith, h))
    (λ x e. absurd (none-some x e)))))
word_line-is k other = λ x e. absurd (none-some x e)

-- what is read of at most 18 words is theirs
line_of-is : (ws : List (List ℕ)) → length ws ≤ 18 → IsOf ws (line_of ws)
unfolding line_of stores_of dump_of stretch_of count_of end_of
line_of-is [] few = λ x e. absurd (none-some x e)
line_of-is (k ∷ ws) few =
    keyed (codes "stores") k ws stores_line _ (all_read ids) (λ a. refl)
    (λ a h is. (omega (arith, few, ap length is, length-map a id_text), h))
    (keyed (codes "dump") k ws (λ p. dump_line p.0 p.1) _ dumps (λ a. refl)
    (λ a h is. (h.0, omega (arith, few, ap length is, length-map a.1 decimal), h.1))
    (keyed (codes "stretch") k ws stretch_by _ stretches (λ a. refl)
    (λ a h is. record { store = h.0; first = omega (arith, h.1.0); last = omega (arith, h.1.1) })
    (keyed (codes "count") k ws (λ p. count_line p.0) _ counts (λ a. refl) (λ a h is. omega (arith, h.0))
    (keyed (codes "end") k ws (λ u. end_line) _ none (λ a. refl) (λ a h is. tt) (word_line-is k ws)))))

-- ---- the line of a text

-- there are 1 to 18 of them
abbrev IsShort : List (List ℕ) → Type 0
IsShort ws = (1 ≤ length ws) × (length ws ≤ 18)

-- a line has 1 to 18 words
short_words : (x : Line) → IsLine x → IsShort (words x)
short_words (stores_line ids) h = (omega arith, omega (arith, h.0, length-map ids id_text))
short_words (dump_line t xs) h = (omega arith, omega (arith, h.1, length-map xs decimal))
short_words _ h = (omega arith, omega arith)

-- the words of a line come back from its text
line_words-line_text : (x : Line) → IsLine x → line_words (line_text x) ≡ words x
unfolding line_text
line_words-line_text x h =
    let short = short_words x h in
    let lacking = All-weaker IsBare (Lacks 32) (bare_lacks 32 (omega arith)) (words x) (line_shown x h).1 in
    ap (take 19) (slice_split-join 32 (words x) short.0 lacking) ∙ take_all 19 (words x) (omega (arith, short.1))

-- the line with a text, of which no more than 18 words are read
abbrev line_in : List ℕ → Option Line
line_in text = cond (nat_lt 18 (length (line_words text))) None (line_of (line_words text))

-- lines are read
pub lines : Reads (Lacks 10) IsLine line_text line_in
unfolding line_text
lines = record {
  again = λ x h.
      let few : length (words x) ≤ 18 = (short_words x h).1 in
      rw (line_words-line_text x h, le-ltb 18 (length (words x)) few) ((line_shown x h).0);
  is = λ text x e. elim (cases_Bool (nat_lt 18 (length (line_words text)))) [
    | inl long ↦ absurd (none-some x (rw long at e))
    | inr short ↦
        let ws = slice_split (λ c. c == 32) text in
        let few : length (line_words text) ≤ 18 = ltb-false 18 _ short in
        let all : take 19 ws ≡ ws = take_all 19 ws (omega (arith, few, length-take 19 ws)) in
        let p = line_of-is (line_words text) few x (rw short at e) in
        (p.0, sym (join_with_byte-slice_split 32 text) ∙ ap (join_with_byte 32) (sym all ∙ p.1))
  ];
  good = λ x h.
      let lacking = All-weaker IsBare (Lacks 10) (bare_lacks 10 (omega arith)) (words x) (line_shown x h).1 in
      join_lacks 10 32 refl (words x) lacking;
}

-- the answer is what the text is read as
is_read : (text : List ℕ) (o : Option Line) → o ≡ line_in text → IsRead text o
is_read text (Some x) e = lines.is text x (sym e)
is_read text None e = λ x h is. none-some x (e ∙ ap line_in is ∙ lines.again x h)

module _ (text : List ℕ) (ws : List (List ℕ)) (same : ws ≡ line_words text) where
  -- at most 18 words
  pub line_read : (o : Option Line) → length ws ≤ 18 → o ≡ line_of ws → IsRead text o
  line_read o few e =
      let here : line_in text ≡ line_of (line_words text) =
      rw (le-ltb 18 (length (line_words text)) (omega (arith, few, ap length same))) refl in
      is_read text o (e ∙ ap line_of same ∙ sym here)

  -- more words
  pub none_read : 18 < length ws → IsRead text None
  none_read more =
      is_read text None (sym (rw (lt-ltb 18 (length (line_words text)) (omega (arith, more, ap length same))) refl))

-- lines of one text are one line
pub same_line : (x y : Line) → IsLine x → IsLine y → line_text x ≡ line_text y → x ≡ y
same_line = one_value lines
