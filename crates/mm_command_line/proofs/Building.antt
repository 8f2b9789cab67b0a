-- What a command is to the program, as clap reads it.
use Rattle.std.proofs.Common.{◌≡◌, ◌∙◌, ◌+◌, ◌<◌, ℕ, suc, arith, sym, ap, List, ◌∷◌, fold, map, drop, length}
use Rattle.std.proofs.Common.{slice_index_or}
use Rattle.std.proofs.Math.Seq.{drop-cons}
use Rattle.clap.specs.Words.{AddsSubcommand, App, app_of, with_subcommand}
use Rattle.clap.specs.declared.builder.command.Command.{Command}
use Rattle.mm_command_line.specs.Commands.{Entry, IsCommand, entry_of, with_command}
use Rattle.mm_command_line.specs.declared.command.Form.{Form}

adds_command : (entry : Entry) (old sub new : Command) → IsCommand entry sub → AddsSubcommand old sub new
    → app_of new ≡ with_command (app_of old) entry
adds_command entry old sub new is adds = adds.shape is.1 ∙ ap (λ (a : App). with_subcommand (app_of old) a.top) is.0

-- with one command more the program is whole with one fewer
pub command_more : (forms : List Form) (i : ℕ) (d : Form) (old sub new : Command) → i < length forms
    → IsCommand (entry_of (slice_index_or forms i d)) sub
    → AddsSubcommand old sub new
    → fold with_command (app_of new) (map entry_of (drop (i + 1) forms)) ≡ fold with_command (app_of old)
    (map entry_of (drop i forms))
command_more forms i d old sub new within is adds =
    let next : suc i ≡ i + 1 = omega arith in
    let left : drop i forms ≡ slice_index_or forms i d ∷ drop (i + 1) forms = drop-cons forms i d within
    ∙ ap (λ n. slice_index_or forms i d ∷ drop n forms) next in
    ap (λ app. fold with_command app (map entry_of (drop (i + 1) forms)))
    (adds_command (entry_of (slice_index_or forms i d)) old sub new is adds)
    ∙ sym (ap (λ fs. fold with_command (app_of old) (map entry_of fs)) left)
