-- The memory of a setup.
use Rattle.mm_memory.specs.Words.{List, [], map, fold, RouteRow, empty_store, with_row, opening, step, Held}
use Rattle.mm_base.specs.declared.rows.StoreRow.{StoreRow}
use Rattle.mm_problem.specs.Setup.{SetupRows}
use Rattle.mm_desk.specs.declared.event.Event.TheVariants.{Enable}
pub use Rattle.mm_desk.specs.Holdings.{Holdings, HaveOtherIds, AreHeld, has_id, store_of, state_of, StandsAt}
pub use Rattle.mm_desk.specs.Holdings.{with_changed}

-- a store of the setup, empty, with its storage on
abbrev pub opened : StoreRow → Held
opened row = record {
  id = row.id;
  channel = row.channel;
  state = (step (opening (empty_store row.kind row.size)) Enable).1;
}

-- the rows of these routes
abbrev pub table_of : List RouteRow → List RouteRow
table_of routes = fold (λ rows row. with_row row rows) [] routes

-- the memory of a setup
abbrev pub memory_of : SetupRows → Holdings
memory_of setup = record { stores = map opened setup.stores; routes = table_of setup.routes }
