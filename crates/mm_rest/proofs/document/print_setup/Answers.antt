use Rattle.std.proofs.Common.{◌≡◌, ◌∙◌, ap, string_bytes, subst}
use Rattle.std.specs.Str.{IsUtf8}
use Rattle.toml.specs.View.{table_view}
use Rattle.mm_problem.specs.Document.{setup_of}
use Rattle.mm_problem.specs.Setup.{SetupRows}
use Rattle.mm_rest.proofs.SetupReads.{setup_read}
use Rattle.mm_rest.proofs.document.print_setup.Goals as goal

pub returns-in-Ok : goal.returns-in-Ok
returns-in-Ok c =
    let rows : SetupRows = record {
      stores = c.args.stores.now;
      routes = c.args.routes.now;
      limits = c.args.limits.now;
      come = c.args.come;
    } in
    let octets : c.into_bytes.result.items ≡ string_bytes c.in-Ok.text = ap (λ v. v.items) c.into_bytes.ensures.value in
    ap setup_of octets
    ∙ setup_read rows (string_bytes c.in-Ok.text) (table_view c.in_ok-table.table) c.setups.ensures c.requires
    c.in_ok-table.ensures.stores c.in_ok-table.ensures.routes c.in_ok-table.ensures.table
    (subst IsUtf8 c.as_str-text.ensures.value c.as_str-text.utf8) c.in-Ok.ensures.reads_back
