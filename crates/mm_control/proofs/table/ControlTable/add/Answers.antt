use Rattle.std.proofs.Common.{◌≡◌, ◌<◌, length, arith}
use Rattle.std.specs.List.{insert}
use Rattle.std.proofs.lemmas.List.Edits.{length-insert}
use Rattle.mm_base.specs.declared.limits.TheConstants.{MAX_ROUTES}
use Rattle.mm_control.specs.Routes.{IsTable}
use Rattle.mm_control.proofs.RouteLemmas.{IsInOrder-with_row}
use Rattle.mm_control.proofs.table.ControlTable.add.Goals as goal

pub invariant_of-self : goal.invariant_of-self
invariant_of-self c =
    let rows = c.self.inside.rows in
    let place = c.in-Err.field-0 in
    let would = rw c.as_slice.ensures.value at c.in-Err.ensures.would_stand in
    let table = c.self.invariant.0 in
    let grown = length-insert rows.items place c.args.row would.within in
    let room : length rows.items < MAX_ROUTES = omega (arith, table.at_most, rows.ok.0, c.len.ensures) in
    let larger : IsTable (insert rows.items place c.args.row) =
    record {
      in_order = rw would.with at (IsInOrder-with_row c.args.row rows.items table.in_order);
      at_most =
          omega (arith, grown, room);
    } in
    let items : c.insert.new.self.items ≡ insert rows.items place c.args.row =
    rw c.unwrap.ensures at c.insert.ensures.items in
    (rw items larger, omega (arith, c.self.invariant.1, c.insert.ensures.capacity))

pub returns-in-Err-2-clause-grows : goal.returns-in-Err-2-clause-grows
returns-in-Err-2-clause-grows c =
    let rows = c.self.inside.rows in
    let place = c.in-Err.field-0 in
    let would = rw c.as_slice.ensures.value at c.in-Err.ensures.would_stand in
    let items : c.insert.new.self.items ≡ insert rows.items place c.args.row =
    rw c.unwrap.ensures at c.insert.ensures.items in
    rw (← c.self.view_is) (rw items (omega (arith, length-insert rows.items place c.args.row would.within)))
