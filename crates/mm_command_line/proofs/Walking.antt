-- The walk over words that are no flags, at a command with no subcommand: each goes to the next positional.
use Rattle.std.proofs.Common.{◌≡◌, ◌∙◌, ◌&&◌, ◌||◌, ℕ, Bool, cond, true, false, true≢false, refl, ap, ap₂, List, []}
use Rattle.std.proofs.Common.{◌∷◌, Option, Some, None, is_some, codes, eqb-true, nat_eq}
use Rattle.std.specs.List.{All, fold, list_all}
use Rattle.std.specs.Option.{option_map_or}
use Rattle.std.specs.Str.{bytes_eq}
use Rattle.std.proofs.lemmas.List.Elements.{All-head, All-tail}
use Rattle.clap.specs.Lexer.{long_of, short_of}
use Rattle.clap.specs.Walk.{Held, Rule, Step, Text, Waiting, Walk, after_step, arg_by_index, finished, idle}
use Rattle.clap.specs.Walk.{is_multiple, nothing_held, option, positional, rows_after, to_positional, value, walk_from}
use Rattle.clap.specs.Walk.{walked, walked_from, word_met}
use Rattle.clap.specs.Simple.{Shape}
use Rattle.clap.specs.Takes.{default_passes, is_valid, level_passes, positional_passes, settle_passes, step_passes}
use Rattle.clap.specs.Takes.{turn_passes, walk_passes, word_passes}
use Rattle.mm_command_line.specs.Lines.{IsFileName}

-- what the parser asks of a word before it takes it for a value
pub record IsValue (word : Text) : Type 0 where
  pub dashes : bytes_eq word (45 ∷ 45 ∷ []) ≡ false
  pub long : long_of word ≡ None
  pub short : short_of word ≡ None

pub is_value : (word : Text) → IsFileName word → IsValue word
is_value [] name = record { dashes = refl; long = refl; short = refl }
is_value (x ∷ xs) name = go (nat_eq x 45) refl
  where
    go : (b : Bool) → nat_eq x 45 ≡ b → IsValue (x ∷ xs)
    go false differs = record { dashes = rw differs refl; long = rw differs refl; short = rw differs refl }
    go true same =
        let dash : x ≡ 45 = eqb-true x 45 same in
        let alone : x ∷ xs ≡ codes "-" = name (rw dash refl) in
        rw alone (record { dashes = refl; long = refl; short = refl })

-- an option waits for a value
abbrev pub waits : Waiting → Bool
waits (option id) = true
waits _ = false

-- the walk has not met a subcommand, and no option waits
pub record IsReady (w : Walk) : Type 0 where
  pub on : w.stopped ≡ None
  pub free : waits w.waiting ≡ false

-- the word goes to the next positional
abbrev pub placed : List Rule → Walk → Text → Walk
placed c w word = to_positional c (arg_by_index c w.position) word w w.held

pub stays_ready : (c : List Rule) (w : Walk) (word : Text) → IsReady w → IsReady (placed c w word)
stays_ready c w word ready = go (arg_by_index c w.position)
  where
    free : (b : Bool) → waits (cond b positional idle) ≡ false
    free true = refl
    free false = refl

    go : (a : Option Rule) → IsReady (to_positional c a word w w.held)
    go None = record { on = ready.on; free = ready.free }
    go (Some a) = record { on = refl; free = free (is_multiple a) }

met_value : (c : List Rule) (trailing : Bool) (waiting : Waiting) (p : ℕ) (word : Text) (h : Held)
    → waits waiting ≡ false → IsValue word → word_met c [] trailing waiting p word h ≡ (h, value)
met_value c true waiting p word h free is = refl
met_value c false idle p word h free is = rw (is.dashes, is.long, is.short) refl
met_value c false positional p word h free is = rw (is.dashes, is.long, is.short) refl
met_value c false (option id) p word h free is = absurd (true≢false free)

walked_value : (c : List Rule) (w : Walk) (word : Text) → IsReady w → IsValue word
    → walked c [] w word ≡ placed c w word
unfolding walked
walked_value c w word ready is =
    ap (λ stopped. walked_from c [] stopped w word) ready.on
    ∙ ap (λ (met : Held × Step). after_step c word w met.0 met.1)
    (met_value c w.is_trailing w.waiting w.position word w.held ready.free is)

-- the walk puts word after word
pub walk_places : (c : List Rule) (w : Walk) (words : List Text) → IsReady w → All IsFileName words
    → fold (walked c []) w words ≡ fold (placed c) w words
walk_places c w [] ready names = refl
walk_places c w (x ∷ xs) ready names =
    ap (λ v. fold (walked c []) v xs) (walked_value c w x ready (is_value x (All-head IsFileName x xs names)))
    ∙ walk_places c (placed c w x) xs (stays_ready c w x ready) (All-tail IsFileName x xs names)

-- the word passes where there is a positional for it
abbrev pub place_passes : Shape → Walk → Bool
place_passes s w = option_map_or (λ a. positional_passes s.rules s.args_override_self a w.held)
    (arg_by_index s.rules w.position) false

abbrev pub places_pass : Shape → Walk → List Text → Bool
places_pass s w [] = true
places_pass s w (x ∷ xs) = place_passes s w && places_pass s (placed s.rules w x) xs

word_passing : (s : Shape) (trailing : Bool) (waiting : Waiting) (word : Text) (h : Held) → waits waiting ≡ false
    → IsValue word → word_passes s [] trailing waiting word h ≡ true
word_passing s true waiting word h free is = refl
word_passing s false idle word h free is = rw (is.dashes, is.long, is.short) refl
word_passing s false positional word h free is = rw (is.dashes, is.long, is.short) refl
word_passing s false (option id) word h free is = absurd (true≢false free)

turn_value : (s : Shape) (w : Walk) (word : Text) → IsReady w → IsValue word
    → turn_passes s [] w word ≡ place_passes s w
turn_value s w word ready is =
    let met : Held × Step = word_met s.rules [] w.is_trailing w.waiting w.position word w.held in
    ap (λ stopped. is_some stopped
    || (word_passes s [] w.is_trailing w.waiting word w.held && step_passes s w.position met.0 met.1)) ready.on
    ∙ ap₂ (λ passes (m : Held × Step). passes && step_passes s w.position m.0 m.1)
    (word_passing s w.is_trailing w.waiting word w.held ready.free is)
    (met_value s.rules w.is_trailing w.waiting w.position word w.held ready.free is)

-- and the walk passes where there is a positional for each
pub walk_passing : (s : Shape) (w : Walk) (words : List Text) → IsReady w → All IsFileName words
    → walk_passes s [] w words ≡ places_pass s w words
unfolding walk_passes
walk_passing s w [] ready names = refl
walk_passing s w (x ∷ xs) ready names =
    let is : IsValue x = is_value x (All-head IsFileName x xs names) in
    ap₂ (λ b c. b && c) (turn_value s w x ready is)
    (ap (λ v. walk_passes s [] v xs) (walked_value s.rules w x ready is)
    ∙ walk_passing s (placed s.rules w x) xs (stays_ready s.rules w x ready) (All-tail IsFileName x xs names))

at_start : IsReady (walk_from nothing_held)
at_start = record { on = refl; free = refl }

-- where the words of a command lead that has no subcommand
abbrev pub end_of : Shape → List Text → Held
end_of s words = (fold (placed s.rules) (walk_from nothing_held) words).held

-- the command takes the words, as far as the positionals decide
abbrev pub level_places : Shape → List Text → Bool
level_places s words = places_pass s (walk_from nothing_held) words
    && (settle_passes s.rules s.args_override_self (end_of s words)
    && (list_all default_passes s.rules && is_valid s (finished s.rules (end_of s words)) false))

pub level_passing : (s : Shape) (words : List Text) → All IsFileName words
    → level_passes s [] nothing_held words false ≡ level_places s words
level_passing s words names =
    ap₂ (λ passes (w : Walk). passes
    && (settle_passes s.rules s.args_override_self w.held
    && (list_all default_passes s.rules && is_valid s (finished s.rules w.held) false)))
    (walk_passing s (walk_from nothing_held) words at_start names)
    (walk_places s.rules (walk_from nothing_held) words at_start names)

-- and what is found then
pub rows_placed : (s : Shape) (words : List Text) → All IsFileName words
    → rows_after s.rules [] words ≡ finished s.rules (end_of s words)
rows_placed s words names =
    ap (λ (w : Walk). finished s.rules w.held) (walk_places s.rules (walk_from nothing_held) words at_start names)
