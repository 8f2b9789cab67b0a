-- Laws over memories.
use Rattle.std.specs.Prelude.{◌≡◌}
use Rattle.mm_memory.specs.Words.{List, RouteRow, has_row, Held}
use Rattle.mm_memory.specs.Holdings.{AreHeld, table_of}
pub use Rattle.mm_desk.specs.Holdings.{ids_of}

-- whether a memory may hold some stores depends on their identifiers alone
abbrev pub IdsDecide : Type 0
IdsDecide = (a b : List Held) → ids_of a ≡ ids_of b → AreHeld a → AreHeld b

-- the table of some routes has a row exactly where they have it
abbrev pub TableHasRoutes : Type 0
TableHasRoutes = (routes : List RouteRow) (row : RouteRow) → has_row row (table_of routes) ≡ has_row row routes
