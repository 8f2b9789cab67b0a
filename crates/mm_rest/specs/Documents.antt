-- The document of a setup, as it is printed: when arrivals come, if during dumps, and an array of tables for the
-- limits, the routes and the stores. Keys are in alphabetical order.
use Rattle.std.specs.Prelude.{ℕ, ◌≤◌, pos, List, [], ◌∷◌, codes, map}
use Rattle.toml.specs.Data.{Data, string, integer, array, table, Members, no_members, member}
use Rattle.toml.specs.View.{items_of}
use Rattle.mm_base.specs.Id.{IsIdField, id_text}
use Rattle.mm_base.specs.Kind.{word_of}
use Rattle.mm_base.specs.declared.rows.StoreRow.{StoreRow}
use Rattle.mm_base.specs.declared.rows.RouteRow.{RouteRow}
use Rattle.mm_base.specs.declared.rows.LimitRow.{LimitRow}
use Rattle.mm_problem.specs.declared.come.Arrivals.{Arrivals}
use Rattle.mm_problem.specs.declared.come.Arrivals.TheVariants.{Before, During}
use Rattle.mm_problem.specs.Come.{word_of as word_of_come}
use Rattle.mm_problem.specs.Setup.{SetupRows}

abbrev pub number : ℕ → Data
number n = integer (pos n)

-- the text of an identifier
abbrev pub id_data : List ℕ → Data
id_data id = string (id_text id)

abbrev pub store_table : StoreRow → Members
store_table r =
    member (codes "channel") (number r.channel) (
    member (codes "id") (id_data r.id) (
    member (codes "size") (number r.size) (
    member (codes "start") (number r.start) (
    member (codes "type") (string (word_of r.kind)) no_members))))

abbrev pub store_data : StoreRow → Data
store_data r = table (store_table r)

abbrev pub route_table : RouteRow → Members
route_table r =
    member (codes "apid") (number r.apid) (
    member (codes "service") (number r.service) (
    member (codes "store") (id_data r.store) (
    member (codes "subtype") (number r.subtype) no_members)))

abbrev pub route_data : RouteRow → Data
route_data r = table (route_table r)

-- a route whose store has the field of an identifier, with numbers of one octet
pub record IsWholeRoute (r : RouteRow) : Type 0 where
  pub field : IsIdField r.store
  pub service : r.service ≤ 255
  pub subtype : r.subtype ≤ 255

abbrev pub limit_table : LimitRow → Members
limit_table r =
    member (codes "blocks") (number r.blocks) (
    member (codes "channel") (number r.channel) no_members)

abbrev pub limit_data : LimitRow → Data
limit_data r = table (limit_table r)

-- a key with an array before other keys, or none where the array is empty
abbrev pub with_array : List ℕ → List Data → Members → Members
with_array key [] rest = rest
with_array key (d ∷ ds) rest = member key (array (items_of (d ∷ ds))) rest

abbrev pub store_members : List StoreRow → Members
store_members stores = with_array (codes "store") (map store_data stores) no_members

abbrev pub route_members : SetupRows → Members
route_members m = with_array (codes "route") (map route_data m.routes) (store_members m.stores)

abbrev pub row_members : SetupRows → Members
row_members m = with_array (codes "limit") (map limit_data m.limits) (route_members m)

-- when arrivals come before other keys, or nothing where they come before dumps
abbrev pub with_come : Arrivals → Members → Members
with_come Before rest = rest
with_come During rest = member (codes "arrivals") (string (word_of_come During)) rest

abbrev pub setup_members : SetupRows → Members
setup_members m = with_come m.come (row_members m)
