use Rattle.std.proofs.Common.{◌∙◌, ap, subst, sym}
use Rattle.std.specs.Str.{IsUtf8}
use Rattle.toml.specs.Data.{string}
use Rattle.mm_rest.proofs.SetupReads.{id_utf8}
use Rattle.mm_rest.proofs.document.id_value.Goals as goal

pub returns-clause-value : goal.returns-clause-value
returns-clause-value c =
    let text = subst IsUtf8 (sym c.text.ensures.text) (id_utf8 c.args.id.now c.field-field.ensures.is_field) in
    c.from.ensures ∙ ap string (c.in_ok-text.ensures.ok text ∙ c.text.ensures.text)
