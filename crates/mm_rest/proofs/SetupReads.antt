-- The text of a setup is read as its rows.
use Rattle.std.proofs.Common.{◌≡◌, ◌<◌, ◌≤◌, ◌∙◌, ℕ, List, [], ◌∷◌, None, Ok, Some, true, inl, inr, refl, sym, ap}
use Rattle.std.proofs.Common.{arith, codes, get_or, length, map, subst}
use Rattle.std.specs.Prelude.{IsTrue}
use Rattle.std.specs.List.{All, AllZip}
use Rattle.std.specs.Str.{IsUtf8}
use Rattle.std.proofs.Math.ListN.{get_or-eq_default}
use Rattle.std.proofs.lemmas.Bool.{cases_lt}
use Rattle.std.proofs.lemmas.Bool.Decides.{nat_tests}
use Rattle.std.proofs.lemmas.List.Elements.{All-head, All-tail}
use Rattle.std.proofs.lemmas.Str.{IsUtf8-from_ascii}
use Rattle.toml.specs.Data.{Data, Members, array, depth, is_before, items_depth, members_depth, no_members, string}
use Rattle.toml.specs.Parse.{parse_document}
use Rattle.toml.specs.View.{items_of}
use Rattle.mm_base.specs.Id.{IsIdField, id_text, is_id_char}
use Rattle.mm_base.specs.declared.rows.LimitRow.{LimitRow}
use Rattle.mm_base.specs.declared.rows.RouteRow.{RouteRow}
use Rattle.mm_base.specs.declared.rows.StoreRow.{StoreRow}
use Rattle.mm_problem.specs.declared.come.Arrivals.{Arrivals}
use Rattle.mm_problem.specs.declared.come.Arrivals.TheVariants.{Before, During}
use Rattle.mm_problem.specs.Document.{document_keys, setup_of}
use Rattle.mm_problem.specs.Keys.{elements, has_only, value_at}
use Rattle.mm_problem.specs.Laws.{ReadsSetups}
use Rattle.mm_problem.specs.ReadableSetup.{HasOnly, IsArrayOf, IsReadableDocument, IsTableOf, SaysId, SaysLimit}
use Rattle.mm_problem.specs.ReadableSetup.{SaysArrivals, SaysRoute, SaysRowsIfAny, SaysStore}
use Rattle.mm_problem.specs.Setup.{IsSetup, SetupRows}
use Rattle.mm_problem.specs.Tables.{limit_keys, route_keys, store_keys}
use Rattle.mm_problem.specs.declared.fault.Name.{Name}
use Rattle.mm_problem.specs.declared.fault.Name.TheVariants as name
use Rattle.mm_problem.proofs.FieldLaws.{has_only_decides}
use Rattle.mm_rest.specs.Documents.{IsWholeRoute, limit_data, limit_table, route_data, route_members}
use Rattle.mm_rest.specs.Documents.{route_table, row_members, setup_members, with_come, store_data, store_members}
use Rattle.mm_rest.specs.Documents.{store_table, with_array}

-- ---- identifiers

below_128 : (c : ℕ) → IsTrue (is_id_char c) → c < 128
below_128 c h = grind (arith, nat_tests)

-- the text of an identifier is UTF-8
pub id_utf8 : (id : List ℕ) → IsIdField id → IsUtf8 (id_text id)
id_utf8 id is = IsUtf8-from_ascii (id_text id) (λ i. elim (cases_lt i (length (id_text id))) [
  | inl within ↦ below_128 (get_or (id_text id) i 0) (is.text.each i 0 within)
  | inr past ↦ omega (arith, get_or-eq_default (id_text id) 0 past)
])

-- ---- keys in order

-- the limits stand before the routes and the stores
pub limit_before : (routes : List RouteRow) (stores : List StoreRow)
    → is_before (codes "limit") (with_array (codes "route") (map route_data routes) (store_members stores)) ≡ true
limit_before [] [] = refl
limit_before [] (s ∷ ss) = refl
limit_before (r ∷ rs) stores = refl

-- ---- tables

elements_are : (ds : List Data) → elements (items_of ds) ≡ ds
elements_are [] = refl
elements_are (d ∷ ds) = ap (λ es. d ∷ es) (elements_are ds)

says_id : (ms : Members) (n : Name) (id : List ℕ) → value_at n ms ≡ Some (string (id_text id)) → IsIdField id
    → SaysId ms n id
says_id ms n id says is = record { text = id_text id; says = says; well_formed = is.text; padded = is.padded }

says_store : (r : StoreRow) → IsIdField r.id → IsTableOf SaysStore (store_data r) r
says_store r field = record {
  members = store_table r;
  is_table = refl;
  says = record {
    only = (has_only_decides store_keys (store_table r)).0 refl;
    id = says_id (store_table r) name.Id r.id refl field;
    size = refl;
    kind = refl;
    channel = refl;
    start = refl;
  };
}

says_route : (r : RouteRow) → IsWholeRoute r → IsTableOf SaysRoute (route_data r) r
says_route r whole = record {
  members = route_table r;
  is_table = refl;
  says = record {
    only = (has_only_decides route_keys (route_table r)).0 refl;
    apid = refl;
    service = record { says = refl; octet = whole.service };
    subtype = record { says = refl; octet = whole.subtype };
    store = says_id (route_table r) name.Store r.store refl whole.field;
  };
}

says_limit : (r : LimitRow) → Unit {0} → IsTableOf SaysLimit (limit_data r) r
says_limit r whole = record {
  members = limit_table r;
  is_table = refl;
  says = record { only = (has_only_decides limit_keys (limit_table r)).0 refl; channel = refl; blocks = refl };
}

each_said : {R : Type 0} (Says : Members → R → Type 0) (data_of : R → Data) (P : R → Type 0)
    → ((r : R) → P r → IsTableOf Says (data_of r) r) → (rows : List R) → All P rows
    → AllZip (IsTableOf Says) (map data_of rows) rows
each_said Says data_of P says [] all = tt
each_said Says data_of P says (r ∷ rs) all =
    (says r (All-head P r rs all), each_said Says data_of P says rs (All-tail P r rs all))

array_said : {R : Type 0} (Says : Members → R → Type 0) (data_of : R → Data) (P : R → Type 0)
    → ((r : R) → P r → IsTableOf Says (data_of r) r) → (rows : List R) → All P rows
    → IsArrayOf Says (array (items_of (map data_of rows))) rows
array_said Says data_of P says rows all = record {
  items = items_of (map data_of rows);
  is_array = refl;
  each = rw (elements_are (map data_of rows)) (each_said Says data_of P says rows all);
}

-- ---- the document

-- the arrays of tables of a document
abbrev array_members : List LimitRow → List RouteRow → List StoreRow → Members
array_members limits routes stores =
    with_array (codes "limit") (map limit_data limits) (with_array (codes "route") (map route_data routes)
    (store_members stores))

are_known : (limits : List LimitRow) (routes : List RouteRow) (stores : List StoreRow)
    → has_only document_keys (array_members limits routes stores) ≡ true
are_known [] [] [] = refl
are_known [] [] (s ∷ ss) = refl
are_known [] (r ∷ rs) [] = refl
are_known [] (r ∷ rs) (s ∷ ss) = refl
are_known (l ∷ ls) [] [] = refl
are_known (l ∷ ls) [] (s ∷ ss) = refl
are_known (l ∷ ls) (r ∷ rs) [] = refl
are_known (l ∷ ls) (r ∷ rs) (s ∷ ss) = refl

-- the key that says when arrivals come is known
come_known : (come : Arrivals) (ms : Members) → has_only document_keys ms ≡ true
    → has_only document_keys (with_come come ms) ≡ true
come_known Before ms known = known
come_known During ms known = known

only_keys : (m : SetupRows) → HasOnly document_keys (setup_members m)
only_keys m = (has_only_decides document_keys (setup_members m)).0
    (come_known m.come (row_members m) (are_known m.limits m.routes m.stores))

-- a key of the arrays has the value that it has without the key that says when arrivals come
value_of_array : (come : Arrivals) (ms : Members) → (value_at name.Store (with_come come ms) ≡ value_at name.Store ms)
    × (value_at name.Route (with_come come ms) ≡ value_at name.Route ms)
    × (value_at name.Limit (with_come come ms) ≡ value_at name.Limit ms)
value_of_array Before ms = (refl, refl, refl)
value_of_array During ms = (refl, refl, refl)

-- the arrays do not say when arrivals come
no_word : (limits : List LimitRow) (routes : List RouteRow) (stores : List StoreRow)
    → value_at name.Arrivals (array_members limits routes stores) ≡ None
no_word [] [] [] = refl
no_word [] [] (s ∷ ss) = refl
no_word [] (r ∷ rs) [] = refl
no_word [] (r ∷ rs) (s ∷ ss) = refl
no_word (l ∷ ls) [] [] = refl
no_word (l ∷ ls) [] (s ∷ ss) = refl
no_word (l ∷ ls) (r ∷ rs) [] = refl
no_word (l ∷ ls) (r ∷ rs) (s ∷ ss) = refl

-- the document says when they come
come_said : (come : Arrivals) (ms : Members) → value_at name.Arrivals ms ≡ None
    → SaysArrivals (value_at name.Arrivals (with_come come ms)) come
come_said Before ms none = rw none refl
come_said During ms none = refl

-- no key of the arrays is before the key that says when arrivals come
pub come_before : (limits : List LimitRow) (routes : List RouteRow) (stores : List StoreRow)
    → is_before (codes "arrivals") (array_members limits routes stores) ≡ true
come_before [] [] [] = refl
come_before [] [] (s ∷ ss) = refl
come_before [] (r ∷ rs) stores = refl
come_before (l ∷ ls) routes stores = refl

stores_at : (limits : List LimitRow) (routes : List RouteRow) (stores : List StoreRow) → 1 ≤ length stores
    → value_at name.Store (array_members limits routes stores) ≡ Some (array (items_of (map store_data stores)))
stores_at limits routes [] some = absurd (omega arith)
stores_at [] [] (s ∷ ss) some = refl
stores_at [] (r ∷ rs) (s ∷ ss) some = refl
stores_at (l ∷ ls) [] (s ∷ ss) some = refl
stores_at (l ∷ ls) (r ∷ rs) (s ∷ ss) some = refl

routes_said : (limits : List LimitRow) (routes : List RouteRow) (stores : List StoreRow) → All IsWholeRoute routes
    → SaysRowsIfAny SaysRoute
    (value_at name.Route (array_members limits routes stores)) routes
routes_said [] [] [] wholes = refl
routes_said [] [] (s ∷ ss) wholes = refl
routes_said (l ∷ ls) [] [] wholes = refl
routes_said (l ∷ ls) [] (s ∷ ss) wholes = refl
routes_said [] (r ∷ rs) stores wholes = array_said SaysRoute route_data IsWholeRoute says_route (r ∷ rs) wholes
routes_said (l ∷ ls) (r ∷ rs) stores wholes = array_said SaysRoute route_data IsWholeRoute says_route (r ∷ rs) wholes

limits_said : (limits : List LimitRow) (routes : List RouteRow) (stores : List StoreRow)
    → SaysRowsIfAny SaysLimit
    (value_at name.Limit (array_members limits routes stores)) limits
limits_said [] [] [] = refl
limits_said [] [] (s ∷ ss) = refl
limits_said [] (r ∷ rs) [] = refl
limits_said [] (r ∷ rs) (s ∷ ss) = refl
limits_said (l ∷ ls) routes stores =
    array_said SaysLimit limit_data (λ (r : LimitRow). Unit {0}) says_limit (l ∷ ls) (λ k d within. tt)

-- the document says the rows
readable : (m : SetupRows) → All (λ (r : StoreRow). IsIdField r.id) m.stores → All IsWholeRoute m.routes → IsSetup m
    → IsReadableDocument (setup_members m) m
readable m fields wholes is =
    let arrays = row_members m in
    let values = value_of_array m.come arrays in
    record {
      only = only_keys m;
      stores = record {
        value = array (items_of (map store_data m.stores));
        has = values.0 ∙ stores_at m.limits m.routes m.stores is.stores.has_store;
        is = array_said SaysStore store_data (λ (r : StoreRow). IsIdField r.id) says_store m.stores fields;
      };
      routes = subst (λ o. SaysRowsIfAny SaysRoute o m.routes) (sym values.1)
          (routes_said m.limits m.routes m.stores wholes);
      limits = subst (λ o. SaysRowsIfAny SaysLimit o m.limits) (sym values.2) (limits_said m.limits m.routes m.stores);
      come = come_said m.come arrays (no_word m.limits m.routes m.stores);
      within = is;
    }

-- ---- how deep it is

rows_deep : {R : Type 0} (data_of : R → Data) → ((r : R) → depth (data_of r) ≡ 1) → (rows : List R)
    → items_depth (items_of (map data_of rows)) ≤ 1
rows_deep data_of flat [] = omega arith
rows_deep data_of flat (r ∷ rs) = omega (arith, flat r, rows_deep data_of flat rs)

array_deep : (key : List ℕ) (ds : List Data) (rest : Members) → items_depth (items_of ds) ≤ 1 → members_depth rest ≤ 2
    → members_depth (with_array key ds rest) ≤ 2
array_deep key [] rest flat before = before
array_deep key (d ∷ ds) rest flat before = omega (arith, flat, before)

come_deep : (come : Arrivals) (ms : Members) → members_depth ms ≤ 2 → members_depth (with_come come ms) ≤ 2
come_deep Before ms before = before
come_deep During ms before = omega (arith, before)

setup_deep : (m : SetupRows) → members_depth (setup_members m) ≤ 2
setup_deep m =
    come_deep m.come (row_members m) (array_deep (codes "limit") (map limit_data m.limits) (route_members m)
    (rows_deep limit_data (λ r. refl) m.limits)
    (array_deep (codes "route") (map route_data m.routes) (store_members m.stores)
    (rows_deep route_data (λ r. refl) m.routes)
    (array_deep (codes "store") (map store_data m.stores) no_members (rows_deep store_data (λ r. refl) m.stores)
    (omega arith))))

-- ---- the text

-- the text of the document of the rows is read as them
pub setup_read : (m : SetupRows) (octets : List ℕ) (ms : Members) → ReadsSetups → IsSetup m
    → All (λ (r : StoreRow). IsIdField r.id) m.stores → All IsWholeRoute m.routes → ms ≡ setup_members m → IsUtf8 octets
    → (members_depth ms ≤ 80 → parse_document octets ≡ Some ms) → setup_of octets ≡ Ok m
setup_read m octets ms law is fields wholes same utf8 back =
    let deep : members_depth ms ≤ 80 = rw same (omega (arith, setup_deep m)) in
    (law octets m).1 (record {
      utf8 = utf8;
      document = ms;
      parsed = back deep;
      readable = rw same (readable m fields wholes is);
    })
