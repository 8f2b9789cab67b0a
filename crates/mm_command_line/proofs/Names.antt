-- Words that are names of files.
use Rattle.std.proofs.Common.{◌≡◌, ◌∙◌, ◌||◌, ℕ, Bool, cond, true, false, true≢false, refl, sym, ap, ap₂, subst, drop}
use Rattle.std.proofs.Common.{List, [], ◌∷◌, Some, codes, length, nat_eq}
use Rattle.std.specs.List.{All, find, list_any, starts_with}
use Rattle.std.specs.Str.{bytes_eq}
use Rattle.std.proofs.lemmas.List.Elements.{All-cons, All-head, All-tail}
use Rattle.mm_command_line.specs.Lines.{IsCommandLine, IsFileName, IsTaskLine, before_dashes, command_words}
use Rattle.mm_command_line.specs.Commands.{Entry, commands}
use Rattle.mm_command_line.specs.Lines.{flight_spelling, is_dashes, kept_names, parts_of, plan_names, without_dashes}
use Rattle.mm_command_line.specs.declared.task.FlightPlan.{FlightPlan}
use Rattle.mm_command_line.specs.declared.task.FlightPlan.TheVariants.{Given, Made}
use Rattle.mm_command_line.specs.declared.task.Task.{Task}
use Rattle.mm_command_line.specs.declared.task.Task.TheVariants.{Plan, Keep, Check, Chart, Table, Rest, Sensitivity}
use Rattle.mm_command_line.specs.declared.task.Task.TheVariants.{Fly, Ask, Read, Mission}
use Rattle.mm_command_line.proofs.Walking.{is_value}

abbrev Text : Type 0
Text = List ℕ

-- ---- words without `--`

-- no `--` is taken out of the words, and none ends them
abbrev pub AreWhole : List Text → Type 0
AreWhole words = (without_dashes words ≡ words) × (before_dashes words ≡ words)

pub undashed : (words : List Text) → list_any is_dashes words ≡ false → AreWhole words
undashed [] none = (refl, refl)
undashed (word ∷ rest) none = go (is_dashes word) refl none (undashed rest)
  where
    go : (b : Bool) → is_dashes word ≡ b → (b || list_any is_dashes rest) ≡ false
        → (list_any is_dashes rest ≡ false → AreWhole rest) → AreWhole (word ∷ rest)
    go true is none later = absurd (true≢false none)
    go false is none later = (
      ap (λ b. cond b rest (word ∷ without_dashes rest)) is ∙ ap (λ ws. word ∷ ws) (later none).0,
      ap (λ b. cond b [] (word ∷ before_dashes rest)) is ∙ ap (λ ws. word ∷ ws) (later none).1,
    )

names_undashed : (words : List Text) → All IsFileName words → list_any is_dashes words ≡ false
names_undashed [] all = refl
names_undashed (word ∷ rest) all =
    ap₂ (λ b c. b || c) (is_value word (All-head IsFileName word rest all)).dashes
    (names_undashed rest (All-tail IsFileName word rest all))

-- ---- the row of a task's command

-- the row of a word
abbrev pub by : Text → Entry → Bool
by word entry = bytes_eq entry.0 word

-- the words are those of a row: its command, which is no flag, and a name for each of its files
pub record IsOfRow (words : List Text) : Type 0 where
  pub word : Text
  pub entry : Entry
  pub files : List Text
  pub is : entry.0 ∷ files ≡ words
  pub known : find (by word) commands ≡ Some entry
  pub same : length files ≡ length entry.1
  pub plain : starts_with nat_eq entry.0 (codes "-") ≡ false

-- a line of the row of this word
of_row : (word : Text) (files : List Text) (entry : Entry) → find (by word) commands ≡ Some entry
    → length files ≡ length entry.1 → starts_with nat_eq entry.0 (codes "-") ≡ false → IsOfRow (entry.0 ∷ files)
of_row word files entry known same plain =
    record { word = word; entry = entry; files = files; is = refl; known = known; same = same; plain = plain }

-- the line of a run
flight_row : (setup forecast sources links : Text) (plan : FlightPlan)
    → IsOfRow (flight_spelling setup forecast sources links plan)
flight_row setup forecast sources links (Made in_order) =
    of_row (codes "fly") (setup ∷ forecast ∷ sources ∷ links ∷ []) _ refl refl refl
flight_row setup forecast sources links (Given plan rest) =
    of_row (codes "run") (setup ∷ forecast ∷ plan.now ∷ sources ∷ links ∷ []) _ refl refl refl

-- the line of a task
row_of : (task : Task) → IsOfRow (command_words task)
row_of (Plan setup forecast in_order output) = of_row (codes "plan") (setup.now ∷ forecast.now ∷ []) _ refl refl refl
row_of (Keep kept output) =
    of_row (codes "plan") (kept.files.setup.now ∷ kept.files.forecast.now ∷ []) _ refl refl refl
row_of (Check files) = of_row (codes "check") (plan_names files) _ refl refl refl
row_of (Chart files worth output) = of_row (codes "chart") (plan_names files) _ refl refl refl
row_of (Table files output) = of_row (codes "table") (plan_names files) _ refl refl refl
row_of (Rest kept output) = of_row (codes "rest") (kept_names kept) _ refl refl refl
row_of (Sensitivity setup forecast output) =
    of_row (codes "sensitivity") (setup.now ∷ forecast.now ∷ []) _ refl refl refl
row_of (Fly f) = flight_row f.setup.now f.forecast.now f.sources.now f.links.now f.plan
row_of (Ask setup requests) = of_row (codes "ask") (setup.now ∷ requests.now ∷ []) _ refl refl refl
row_of (Read packets) = of_row (codes "read") (packets.now ∷ []) _ refl refl refl
row_of (Mission mission part output) = of_row (codes "mission") (mission.now ∷ []) _ refl refl refl

-- the row of the line of a command
pub line_row : (words : List Text) → IsCommandLine words → IsOfRow words
line_row words line = subst IsOfRow line.spelled (row_of line.task)

-- no file of it is spelled like a flag
pub row_names : (words : List Text) → IsCommandLine words → (row : IsOfRow words) → All IsFileName row.files
row_names words line row = subst (λ ws. All IsFileName (drop 1 ws)) (sym row.is) line.names

-- where no name is spelled like a flag, no word of the line is
named : (command : Text) (names : List Text) → starts_with nat_eq command (codes "-") ≡ false
    → All IsFileName names → All IsFileName (command ∷ names)
named command names plain all =
    All-cons IsFileName command names (λ dashed. absurd (true≢false (sym dashed ∙ plain))) all

-- no word of the line of a command is spelled like a flag
pub line_names : (words : List Text) → IsCommandLine words → All IsFileName words
line_names words line =
    let row = line_row words line in
    subst (All IsFileName) row.is (named row.entry.0 row.files row.plain (row_names words line row))

-- and none is `--`
pub line_whole : (words : List Text) → IsCommandLine words → without_dashes words ≡ words
line_whole words line = (undashed words (names_undashed words (line_names words line))).0

All-rest : (words : List Text) → All IsFileName words → All IsFileName (drop 1 words)
All-rest [] all = all
All-rest (word ∷ rest) all = All-tail IsFileName word rest all

-- without its options, the line of a task is that of a command
pub line_words : (words : List Text) (line : IsTaskLine words) → command_words line.task ≡ (parts_of words).command
line_words words line = line.spelled.command.same ∙ (undashed (parts_of words).command line.undashed).0

pub line_command : (words : List Text) → IsTaskLine words → IsCommandLine (parts_of words).command
line_command words line = record {
  task = line.task;
  spelled = line_words words line;
  names = All-rest (parts_of words).command
      (subst (All IsFileName) (undashed (parts_of words).command line.undashed).1 line.spelled.command.names);
}
