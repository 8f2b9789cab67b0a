use Rattle.std.proofs.Common.{◌≡◌, filter, rules}
use Rattle.mm_control.specs.Routes.{is_for}
use Rattle.mm_control.proofs.NamedLemmas.{named_once, named_in_order}
use Rattle.mm_control.proofs.table.ControlTable.rows_for.Goals as goal

pub returns : goal.returns
returns c =
    let apid = c.args.apid in
    let service = c.args.service in
    let subtype = c.args.subtype in
    let rows : c.rows_for.result.now ≡ filter (is_for apid service subtype) c.args.self.now = search rules in
    let in_order = rw c.self.view_is at c.self.invariant.0.in_order in
    record {
      rows = rows;
      in_order = rw rows (named_in_order apid service subtype c.args.self.now in_order);
      once = λ id. rw rows (named_once apid service subtype id c.args.self.now in_order);
    }
