-- The commands of the program, and what clap is told of them.
use Rattle.std.specs.Prelude.{◌≡◌, List, [], ◌∷◌, Bool, Option, true, false, codes, filter_map, find, fold, map}
use Rattle.std.specs.Prelude.{option_and_then, option_map}
use Rattle.std.specs.Str.{bytes_eq}
use Rattle.clap.specs.Words.{App, Row, Rule, Text, app_of, first_of, new_app, new_rule, with_rule, with_subcommand}
use Rattle.clap.specs.declared.builder.command.Command.{Command}
use Rattle.clap.specs.declared.builder.command.Command.TheViews.{out-Command as fields_of}
use Rattle.mm_command_line.specs.declared.file.File.{File}
use Rattle.mm_command_line.specs.declared.file.File.TheVariants as file
use Rattle.mm_command_line.specs.declared.command.Form.{Form}

-- what help calls a file of a command
abbrev pub name_of : File → Text
name_of file.Setup = codes "SETUP"
name_of file.Forecast = codes "FORECAST"
name_of file.Plan = codes "PLAN"
name_of file.FlownPlan = codes "PLAN"
name_of file.Step = codes "STEP"
name_of file.Sources = codes "SOURCES"
name_of file.Links = codes "LINKS"
name_of file.Requests = codes "REQUESTS"
name_of file.Packets = codes "PACKETS"
name_of file.Mission = codes "MISSION"

-- the word of a command, and what help calls its files
abbrev pub Entry : Type 0
Entry = Text × List Text

abbrev pub entry_of : Form → Entry
entry_of form = (form.word.now, map name_of form.files.now)

abbrev pub commands : List Entry
commands =
    (codes "plan", codes "SETUP" ∷ codes "FORECAST" ∷ [])
    ∷ (codes "check", codes "SETUP" ∷ codes "FORECAST" ∷ codes "PLAN" ∷ [])
    ∷ (codes "chart", codes "SETUP" ∷ codes "FORECAST" ∷ codes "PLAN" ∷ [])
    ∷ (codes "table", codes "SETUP" ∷ codes "FORECAST" ∷ codes "PLAN" ∷ [])
    ∷ (codes "rest", codes "SETUP" ∷ codes "FORECAST" ∷ codes "PLAN" ∷ codes "STEP" ∷ [])
    ∷ (codes "sensitivity", codes "SETUP" ∷ codes "FORECAST" ∷ [])
    ∷ (codes "run", codes "SETUP" ∷ codes "FORECAST" ∷ codes "PLAN" ∷ codes "SOURCES" ∷ codes "LINKS" ∷ [])
    ∷ (codes "fly", codes "SETUP" ∷ codes "FORECAST" ∷ codes "SOURCES" ∷ codes "LINKS" ∷ [])
    ∷ (codes "ask", codes "SETUP" ∷ codes "REQUESTS" ∷ [])
    ∷ (codes "read", codes "PACKETS" ∷ [])
    ∷ (codes "mission", codes "MISSION" ∷ [])
    ∷ []

-- the name of a file, which has to be there
abbrev pub file_rule : Text → Rule
file_rule id = record (new_rule id) { required = true }

abbrev pub with_file : App → Text → App
with_file app id = with_rule app (file_rule id)

abbrev pub app_by : Entry → App
app_by entry = fold with_file (new_app entry.0) entry.1

-- nothing is handed down to commands below
abbrev pub has_globals : Command → Bool
has_globals c = (fields_of c).has_globals

abbrev pub IsCommand : Entry → Command → Type 0
IsCommand entry c = (app_of c ≡ app_by entry) × (has_globals c ≡ false)

-- the program without its commands
abbrev pub bare : App
bare = record {
  top = record (new_app (codes "mm_tool")).top {
    no_binary_name = true;
    subcommand_required = true;
    arg_required_else_help = true;
    has_version = true;
  };
  subs = [];
}

-- the program with a command more, after those that it has
abbrev pub with_command : App → Entry → App
with_command app entry = with_subcommand app (app_by entry).top

-- the program with its commands
abbrev pub tool : App
tool = fold with_command bare commands

-- the command that was found, and what was found for its files
abbrev pub row_found : Option (Text × List Row) → Option (Entry × List Row)
row_found = option_and_then
    (λ found. option_map (λ entry. (entry, found.1)) (find (λ (entry : Entry). bytes_eq entry.0 found.0) commands))

-- the word of a command, and the name that was found for each of its files
abbrev pub words_found : Entry → List Row → List Text
words_found entry rows = entry.0 ∷ filter_map (λ id. first_of id rows) entry.1

-- the words that were found
abbrev pub line_found : Option (Text × List Row) → Option (List Text)
line_found found = option_map (λ (row : Entry × List Row). words_found row.0 row.1) (row_found found)
