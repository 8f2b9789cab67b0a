use Rattle.std.proofs.Common.{◌∙◌, rules, sym}
use Rattle.mm_commands.proofs.Beside.{folder_found, no_folder, none_is}
use Rattle.mm_commands.proofs.tables.folder_of.Goals as goal

pub returns-in_default : goal.returns-in_default
returns-in_default c =
    let name = c.args.name.now in
    c.new.ensures.bytes ∙ sym (no_folder name (none_is name c.in_default.ensures.cases))

pub returns : goal.returns
returns c =
    let split = c.in-Some.ensures.cases in
    let folder = folder_found c.args.name.now c.in-Some.front.now split.0 split.1 split.2 split.3 in
    rw folder (search rules)
