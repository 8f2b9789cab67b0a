-- Words that spell a command are taken, and are what is found.
use Rattle.std.proofs.Common.{◌≡◌, ◌∙◌, ◌++◌, ◌&&◌, ℕ, zero, suc, Bool, cond, true, false, true≢false, refl, sym, ap}
use Rattle.std.proofs.Common.{ap₂, subst, arith, drop, length, map, List, [], ◌∷◌, Option, Some, is_some}
use Rattle.std.specs.List.{All, find, fold, list_all}
use Rattle.std.specs.Option.{option_map, option_map_or, unwrap_or}
use Rattle.std.specs.Prelude.{slice_get}
use Rattle.clap.specs.Walk.{Names, Row, Rule, Text, Walk, answers_to, finished, nothing_held, walk, walk_from, walked}
use Rattle.clap.specs.Simple.{App, HasMatchesOf, Shape, built, built_leaf, entered, inherited, is_simple, label_of}
use Rattle.clap.specs.Simple.{names_of, rows_at, subcommand_of, subcommand_rows_of}
use Rattle.clap.specs.declared.parser.matches.ArgMatches.{ArgMatches}
use Rattle.clap.specs.Takes.{default_passes, entered_passes, is_valid, level_passes, settle_passes, takes, turn_passes}
use Rattle.clap.specs.Takes.{walk_passes}
use Rattle.clap.proofs.OnLiterals.{clap_on_literals}
use Rattle.clap.proofs.WalkLemmas.{walk_stopped}
use Rattle.mm_command_line.specs.Commands.{Entry, app_by, commands, line_found, tool}
use Rattle.mm_command_line.specs.Lines.{IsCommandLine, IsFileName}
use Rattle.mm_command_line.proofs.Names.{by, line_row, row_names}
use Rattle.mm_command_line.proofs.Walking.{end_of, level_passing, level_places, rows_placed}

-- the program as the parser builds it
abbrev built_tool : App
built_tool = built tool

abbrev rules : List Rule
rules = built_tool.top.rules

abbrev words_known : Names
words_known = names_of built_tool

abbrev start : Walk
start = walk_from nothing_held

-- the walk that met a command, and these words after it
abbrev stopped_at : Text → List Text → Walk
stopped_at word files = record start { stopped = Some (word, files) }

-- a command as the parser builds it
abbrev leaf : Entry → Shape
leaf entry = built_leaf (inherited built_tool.top (app_by entry).top)

-- a word for each of these files
abbrev words_for : (ℕ → Text) → List Text → List Text
words_for word [] = []
words_for word (id ∷ ids) = word 0 ∷ words_for (λ k. word (suc k)) ids

-- ---- each row of the table

-- two functions give the same for each
record Agree {A : Type 0} (f g : Entry → A) : Type 0 where
  same : map f commands ≡ map g commands

stops_each : Agree (λ e. walked rules words_known start e.0) (λ e. stopped_at e.0 [])
unfolding clap_on_literals
stops_each = record { same = refl }

passes_each : Agree (λ e. turn_passes built_tool.top words_known start e.0) (λ e. true)
unfolding clap_on_literals
passes_each = record { same = refl }

enters_each : Agree (λ e. find (λ (s : Shape). answers_to e.0 (label_of s)) built_tool.subs) (λ e. Some (leaf e))
enters_each = record { same = refl }

takes_each : (word : ℕ → Text) → Agree (λ e. level_places (leaf e) (words_for word e.1)) (λ e. true)
takes_each word = record { same = refl }

-- what is found for these words of a command
abbrev found_for : Entry → List Text → Text × List Row
found_for e files = ((leaf e).name, finished (leaf e).rules (end_of (leaf e) files))

finds_each : (word : ℕ → Text)
    → Agree (λ e. line_found (Some (found_for e (words_for word e.1)))) (λ e. Some (e.0 ∷ words_for word e.1))
finds_each word = record { same = refl }

-- and so they do for one that is found
alike : {A : Type 0} (f g : Entry → A) (test : Entry → Bool) (rows : List Entry) (row : Entry) → map f rows ≡ map g rows
    → find test rows ≡ Some row → f row ≡ g row
alike f g test [] row same found = absurd (true≢false (sym (ap is_some found)))
alike f g test (first ∷ rest) row same found = go (test first) refl (alike f g test rest row (ap (drop 1) same))
  where
    go : (b : Bool) → test first ≡ b → (find test rest ≡ Some row → f row ≡ g row) → f row ≡ g row
    go true is later = subst (λ e. f e ≡ g e)
        (ap (λ o. unwrap_or o first) (sym (ap (λ b. cond b (Some first) (find test rest)) is) ∙ found))
        (ap (λ l. unwrap_or (slice_get l 0) (f first)) same)
    go false is later = later (sym (ap (λ b. cond b (Some first) (find test rest)) is) ∙ found)

agree : {A : Type 0} (f g : Entry → A) (test : Entry → Bool) (entry : Entry) → Agree f g
    → find test commands ≡ Some entry → f entry ≡ g entry
agree f g test entry each found = alike f g test commands entry each.same found

-- ---- a line of a row

word_at : List Text → ℕ → Text
word_at [] k = []
word_at (word ∷ rest) zero = word
word_at (word ∷ rest) (suc k) = word_at rest k

words_are : (words ids : List Text) → length words ≡ length ids → words_for (word_at words) ids ≡ words
unfolding word_at
words_are [] [] same = refl
words_are [] (id ∷ ids) same = absurd (omega (arith, same))
words_are (word ∷ rest) [] same = absurd (omega (arith, same))
words_are (word ∷ rest) (id ∷ ids) same = ap (λ ws. word ∷ ws) (words_are rest ids (omega (arith, same)))

-- what follows the command passes at the program's level
stopped_passes : (word : Text) (seen words : List Text)
    → walk_passes built_tool.top words_known (stopped_at word seen) words ≡ true
unfolding walk_passes walked
stopped_passes word seen [] = refl
stopped_passes word seen (x ∷ xs) = stopped_passes word (seen ++ x ∷ []) xs

module _ (test : Entry → Bool) (entry : Entry) (files : List Text) (known : find test commands ≡ Some entry) where
  stops : walked rules words_known start entry.0 ≡ stopped_at entry.0 []
  stops = agree _ _ test entry stops_each known

  walk_is : walk rules words_known nothing_held (entry.0 ∷ files) ≡ stopped_at entry.0 files
  walk_is = ap (λ w. fold (walked rules words_known) w files) stops
      ∙ sym (walk_stopped rules words_known start entry.0 [] files)

  top_passes : walk_passes built_tool.top words_known start (entry.0 ∷ files) ≡ true
  unfolding walk_passes
  top_passes = ap₂ (λ b c. b && c) (agree _ _ test entry passes_each known)
      (ap (λ w. walk_passes built_tool.top words_known w files) stops ∙ stopped_passes entry.0 [] files)

  level_top : level_passes built_tool.top words_known nothing_held (entry.0 ∷ files) true ≡ true
  level_top = ap₂ (λ passes (w : Walk). passes && (settle_passes rules built_tool.top.args_override_self w.held
      && (list_all default_passes rules && is_valid built_tool.top (finished rules w.held) true))) top_passes walk_is

  found : find (λ (s : Shape). answers_to entry.0 (label_of s)) built_tool.subs ≡ Some (leaf entry)
  found = agree _ _ test entry enters_each known

  -- the command takes a word for each of its files
  leaf_takes : All IsFileName files → length files ≡ length entry.1
      → level_passes (leaf entry) [] nothing_held files false ≡ true
  leaf_takes names same = level_passing (leaf entry) files names
      ∙ ap (level_places (leaf entry)) (sym (words_are files entry.1 same))
      ∙ agree _ _ test entry (takes_each (word_at files)) known

  enters : entered built_tool (Some (entry.0, files)) ≡ Some (rows_at (leaf entry) files)
  enters = ap (option_map (λ s. rows_at s files)) found

  -- and so does the program
  row_takes : All IsFileName files → length files ≡ length entry.1 → takes tool (entry.0 ∷ files) ≡ true
  row_takes names same =
      let below : entered_passes built_tool (Some (entry.0, files)) ≡ true =
      ap (λ o. option_map_or (λ s. level_passes s [] nothing_held files false) o true) found ∙ leaf_takes names same in
      let at_stop : Option (Text × List Text) → Bool =
      λ stop. entered_passes built_tool stop && level_passes built_tool.top words_known nothing_held (entry.0 ∷ files)
      (is_some (entered built_tool stop)) in
      ap (λ (w : Walk). at_stop w.stopped) walk_is
      ∙ ap₂ (λ b o. b && level_passes built_tool.top words_known nothing_held (entry.0 ∷ files) (is_some o)) below
      enters
      ∙ level_top

  -- which finds each word of the line, those of the files by what help calls them
  row_finds : All IsFileName files → length files ≡ length entry.1
      → line_found (subcommand_of tool (entry.0 ∷ files)) ≡ Some (entry.0 ∷ files)
  row_finds names same =
      let word : ℕ → Text = word_at files in
      ap (λ (w : Walk). line_found (entered built_tool w.stopped)) walk_is ∙ ap line_found enters
      ∙ ap (λ rows. line_found (Some ((leaf entry).name, rows))) (rows_placed (leaf entry) files names)
      ∙ ap (λ words. line_found (Some (found_for entry words))) (sym (words_are files entry.1 same))
      ∙ agree _ _ test entry (finds_each word) known
      ∙ ap (λ words. Some (entry.0 ∷ words)) (words_are files entry.1 same)

-- ---- the line of a task

-- the program takes the words, and finds them
pub record IsRead (words : List Text) : Type 0 where
  pub taken : takes tool words ≡ true
  pub found : line_found (subcommand_of tool words) ≡ Some words

-- the line of a command is of a row
line_read : (words : List Text) → IsCommandLine words → IsRead words
line_read words line =
    let row = line_row words line in
    let names = row_names words line row in
    subst IsRead row.is (record {
      taken = row_takes (by row.word) row.entry row.files row.known names row.same;
      found = row_finds (by row.word) row.entry row.files row.known names row.same;
    })

-- the program takes the words of a command
pub passes : (app : App) (words : List Text) → app ≡ tool → IsCommandLine words → takes app words ≡ true
passes app words is line = ap (λ a. takes a words) is ∙ (line_read words line).taken

-- and finds them in the matches
pub finds : (app : App) (words : List Text) (m : ArgMatches) → app ≡ tool → HasMatchesOf app words m
    → IsCommandLine words → line_found (subcommand_rows_of m) ≡ Some words
finds app words m is has line = ap line_found ((has (ap is_simple is)).1 ∙ ap (λ a. subcommand_of a words) is)
    ∙ (line_read words line).found
