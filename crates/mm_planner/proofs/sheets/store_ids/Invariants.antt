use Rattle.std.proofs.Common.{◌≡◌, map, take}
use Rattle.std.specs.Prelude.{All}
use Rattle.mm_base.specs.declared.rows.StoreRow.{StoreRow}
use Rattle.mm_base.specs.Id.{IsIdField}
use Rattle.mm_planner.proofs.sheets.store_ids.Given as goal

abbrev pub invariant-loop-store : goal.invariant-loop-store
invariant-loop-store l = record {
  ids : l.ids.items ≡ map (λ (row : StoreRow). row.id) (take l.store l.problem.rows);
  each : All IsIdField l.ids.items;
}
