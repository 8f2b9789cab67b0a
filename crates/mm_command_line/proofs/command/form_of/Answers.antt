use Rattle.std.proofs.Common.{rules, tests}
use Rattle.std.specs.Str.{bytes_eq}
use Rattle.std.proofs.lemmas.Iterator.{YieldsList-from_slice}
use Rattle.std.proofs.lemmas.Iterator.Search.{find_from_yields_List}
use Rattle.mm_command_line.specs.declared.command.Form.{Form}
use Rattle.mm_command_line.proofs.Finding.{row_is}
use Rattle.mm_command_line.proofs.command.form_of.Goals as goal

pub returns : goal.returns
returns c =
    let found = find_from_yields_List (λ (form : Form). bytes_eq form.word.now c.args.word.now) _ _ c.find.result
    c.find.ensures.ran
    (YieldsList-from_slice c.args.forms.now c.iter.ensures.rest) (λ x b q k. search (rules, tests)) in
    record { row = row_is c.args.word.now c.find.result c.args.forms.now found }
