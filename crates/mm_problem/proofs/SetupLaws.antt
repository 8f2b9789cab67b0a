-- What is read in a document, and what the document says.
use Rattle.std.proofs.Common.{◌≡◌, ◌≢◌, ℕ, nat_le, List, [], ◌∷◌, length, Option, Some, None, Ok, refl, sym, ap}
use Rattle.std.proofs.Common.{subst, ◌∙◌, arith, inl, inr}
use Rattle.std.specs.Prelude.{All, bytes_eq}
use Rattle.std.specs.List.{AllZip}
use Rattle.std.proofs.lemmas.Bool.{and_parts, cases_Bool}
use Rattle.std.proofs.lemmas.Slice.Eq.{bytes_eq-Decides}
use Rattle.std.proofs.lemmas.List.Elements.{All-nil}
use Rattle.std.proofs.lemmas.Slice.Zip.{AllZip-long}
use Rattle.std.proofs.lemmas.Str.{IsUtf8-from_is_utf8, is_utf8-from_IsUtf8}
use Rattle.std.specs.Str.{is_utf8}
use Rattle.std.specs.Option.{ok_or, option_map, option_map_or, option_and_then}
use Rattle.toml.specs.Data.{Data, string, Items, Members, as_array}
use Rattle.toml.specs.Parse.{parse_document}
use Rattle.mm_problem.specs.declared.come.Arrivals.{Arrivals}
use Rattle.mm_problem.specs.declared.come.Arrivals.TheVariants.{Before, During}
use Rattle.mm_problem.specs.declared.fault.Fault.TheVariants.{SetupText, SetupField}
use Rattle.mm_problem.specs.declared.fault.Name.{Name}
use Rattle.mm_problem.specs.declared.fault.Name.TheVariants as name
use Rattle.mm_base.specs.declared.limits.TheConstants.{MAX_STORES, MAX_ROUTES, CHANNELS}
use Rattle.mm_problem.specs.Document.{Lists, AreCounted, counts_of, rows_of, lists_at, setup_in, document_keys}
use Rattle.mm_problem.specs.Document.{document_of, setup_of, come_of, come_from}
use Rattle.mm_problem.specs.Come.{word_of}
use Rattle.mm_problem.specs.Keys.{elements, elements_of, value_at, array_at}
use Rattle.mm_problem.specs.ReadableSetup.{SaysStore, SaysRoute, SaysLimit, IsTableOf, IsArrayOf, SaysRows}
use Rattle.mm_problem.specs.ReadableSetup.{SaysRowsIfAny, SaysArrivals, IsReadableDocument, IsReadableSetup}
use Rattle.mm_problem.specs.Setup.{SetupRows, HaveOtherIds, IsRouteRow, IsLimitRow, HaveOtherChannels}
use Rattle.mm_problem.specs.Setup.{IsSetup}
use Rattle.mm_problem.specs.Tables.{row_after, store_at, new_store, route_at, new_route, limit_at, new_limit}
use Rattle.mm_problem.proofs.FieldLaws.{array_said as array_is, text_is, has_only_decides}
use Rattle.mm_base.proofs.IdFields.{Decides-nat_le}
use Rattle.mm_base.proofs.ReadingSteps.{bind_ok, test_ok, ok_or_ok, cond_ok}
use Rattle.mm_problem.proofs.RowLaws.{AreRows, none_apart, rows_said, rows_read}
use Rattle.mm_problem.proofs.TableLaws.{IsReadStore, next_store_said, next_store_read, next_route_said, next_route_read}
use Rattle.mm_problem.proofs.TableLaws.{next_limit_said, next_limit_read}

-- ---- the rows of counted tables

-- the tables say these rows, which are those of a setup
pub record AreRowsOf (lists : Lists) (m : SetupRows) : Type 0 where
  pub stores : AllZip (IsTableOf SaysStore) lists.stores m.stores
  pub routes : AllZip (IsTableOf SaysRoute) lists.routes m.routes
  pub limits : AllZip (IsTableOf SaysLimit) lists.limits m.limits
  pub come : lists.come ≡ m.come
  pub within : IsSetup m

-- what rows are, where there are none before
first_rows : {R : Type 0} (Says : Data → R → Type 0) (P : R → Type 0) (D : R → R → Type 0) (ds : List Data)
    (rows : List R) → AreRows Says P D ds [] rows → AllZip Says ds rows × (length ds ≡ length rows)
first_rows Says P D ds rows h =
    let each : AllZip Says ds rows = subst (AllZip Says ds) (sym h.behind) h.each in
    (each, sym (AllZip-long Says ds rows each))

-- rows that are read are what the tables say
pub rows_of_said : (lists : Lists) (m : SetupRows) → AreCounted lists → rows_of lists ≡ Ok m → AreRowsOf lists m
unfolding rows_of
rows_of_said lists m counted h =
    let (stores, stores_are, h1) = bind_ok _ _ _ h in
    let (routes, routes_are, h2) = bind_ok _ _ _ h1 in
    let (limits, limits_are, last) = bind_ok _ _ _ h2 in
    let s = rows_said (IsTableOf SaysStore) IsReadStore HaveOtherIds (row_after store_at new_store) next_store_said
    lists.stores [] stores (All-nil IsReadStore) (none_apart HaveOtherIds) stores_are in
    let r = rows_said (IsTableOf SaysRoute) (IsRouteRow stores) ◌≢◌ (row_after route_at (new_route stores))
    (next_route_said stores) lists.routes [] routes (All-nil (IsRouteRow stores)) (none_apart ◌≢◌) routes_are in
    let l = rows_said (IsTableOf SaysLimit) IsLimitRow HaveOtherChannels (row_after limit_at new_limit) next_limit_said
    lists.limits [] limits (All-nil IsLimitRow) (none_apart HaveOtherChannels) limits_are in
    let (store_tables, store_count) = first_rows (IsTableOf SaysStore) IsReadStore HaveOtherIds lists.stores stores s in
    let (route_tables, route_count) = first_rows (IsTableOf SaysRoute) (IsRouteRow stores) ◌≢◌ lists.routes routes r in
    let (limit_tables, limit_count) =
    first_rows (IsTableOf SaysLimit) IsLimitRow HaveOtherChannels lists.limits limits l in
    let rows : SetupRows = record { stores = stores; routes = routes; limits = limits; come = lists.come } in
    let same : rows ≡ m = cc in
    subst (AreRowsOf lists) same (record {
      stores = store_tables;
      routes = route_tables;
      limits = limit_tables;
      come = refl;
      within = record {
        stores = record {
          has_store = omega (arith, counted.has_store);
          at_most = omega (arith, counted.stores);
          each = λ k d below. (s.fit k d below).row;
          named = s.apart;
        };
        starts = λ k d below. (s.fit k d below).start;
        ids = λ k d below. (s.fit k d below).id;
        routes = record { at_most = omega (arith, counted.routes); each = r.fit; once = r.apart };
        limits = record { at_most = omega (arith, counted.limits); each = l.fit; once = l.apart };
      };
    })

-- the rows that the tables say are read
pub rows_of_read : (lists : Lists) (m : SetupRows) → AreRowsOf lists m → rows_of lists ≡ Ok m
unfolding rows_of
rows_of_read lists m h =
    let w = h.within in
    let stores_fit : All IsReadStore m.stores =
    λ k d below. record {
      row = w.stores.each k d below;
      start = w.starts k d below;
      id = w.ids k d below;
    } in
    rw (
      rows_read (IsTableOf SaysStore) IsReadStore HaveOtherIds
          (row_after store_at new_store) next_store_read lists.stores [] m.stores h.stores stores_fit w.stores.named,
      rows_read (IsTableOf SaysRoute) (IsRouteRow m.stores) ◌≢◌ (row_after route_at (new_route m.stores))
          (next_route_read m.stores) lists.routes [] m.routes h.routes w.routes.each w.routes.once,
      rows_read (IsTableOf SaysLimit) IsLimitRow HaveOtherChannels
          (row_after limit_at new_limit) next_limit_read lists.limits [] m.limits h.limits w.limits.each w.limits.once,
      h.come,
    ) refl

-- ---- counts

-- counts that pass the tests
pub counts_said : (lists : Lists) (u : Unit {0}) → counts_of lists ≡ Ok u → AreCounted lists
unfolding counts_of
counts_said lists u h =
    let (a, stores, h1) = bind_ok _ _ _ h in
    let (b, routes, limits) = bind_ok _ _ _ h1 in
    let (some, few) = and_parts (nat_le 1 (length lists.stores)) (nat_le (length lists.stores) MAX_STORES)
    (test_ok _ _ _ stores) in
    record {
      has_store = (Decides-nat_le 1 (length lists.stores)).0 some;
      stores = (Decides-nat_le (length lists.stores) MAX_STORES).0 few;
      routes = (Decides-nat_le (length lists.routes) MAX_ROUTES).0 (test_ok _ _ _ routes);
      limits = (Decides-nat_le (length lists.limits) CHANNELS).0 (test_ok _ _ _ limits);
    }

-- the tests pass at these counts
counts_read : (lists : Lists) → AreCounted lists → counts_of lists ≡ Ok tt
unfolding counts_of
counts_read lists h = rw (
  (Decides-nat_le 1 (length lists.stores)).1 h.has_store,
  (Decides-nat_le (length lists.stores) MAX_STORES).1 h.stores,
  (Decides-nat_le (length lists.routes) MAX_ROUTES).1 h.routes,
  (Decides-nat_le (length lists.limits) CHANNELS).1 h.limits,
) refl

-- ---- arrays

-- elements that are there are those of an array
elements_said : (o : Option Items) (ds : List Data) → option_map elements o ≡ Some ds
    → (items : Items) × (o ≡ Some items) × (elements items ≡ ds)
elements_said None ds h = absurd (cc)
elements_said (Some items) ds h = (items, refl, cc)

module _ {R : Type 0} (Says : Members → R → Type 0) (name : Name) (ds : List Data) (rows : List R) where
  -- an array whose elements are read
  array_said : (d : Data) → elements_of name d ≡ Ok ds → AllZip (IsTableOf Says) ds rows → IsArrayOf Says d rows
  array_said d h each =
      let (items, is, are) = elements_said (as_array d) ds (ok_or_ok _ _ _ h) in
      record { items = items; is_array = array_is d items is; each = rw are each }

  -- the rows at a key, by the value that it has
  rows_at_value : (document : Members) (o : Option Data) → value_at name document ≡ o
      → ok_or (option_map elements (option_and_then as_array o)) (SetupField 0 name) ≡ Ok ds
      → AllZip (IsTableOf Says) ds rows → SaysRows Says document name rows
  rows_at_value document None is h each = absurd (cc)
  rows_at_value document (Some d) is h each = record { value = d; has = is; is = array_said d h each }

  -- the rows at a key that is read
  rows_at_said : (document : Members) → array_at name document ≡ Ok ds → AllZip (IsTableOf Says) ds rows
      → SaysRows Says document name rows
  rows_at_said document h each = rows_at_value document (value_at name document) refl h each

  -- no tables say no rows
  no_rows : (all : List R) → AllZip (IsTableOf Says) [] all → all ≡ []
  no_rows [] each = refl
  no_rows (r ∷ more) each = absurd each

  -- the rows at a key that may be missing
  if_any_said : (o : Option Data) → option_map_or (elements_of name) o (Ok []) ≡ Ok ds → AllZip (IsTableOf Says) ds rows
      → SaysRowsIfAny Says o rows
  if_any_said None h each = let none : [] ≡ ds = cc in no_rows rows (rw none each)
  if_any_said (Some d) h each = array_said d h each

-- the elements of the array at a key that may be missing
if_any_read : {R : Type 0} (Says : Members → R → Type 0) (name : Name) (rows : List R) (o : Option Data)
    → SaysRowsIfAny Says o rows
    → (ds : List Data) × (option_map_or (elements_of name) o (Ok []) ≡ Ok ds) × AllZip (IsTableOf Says) ds rows
if_any_read Says name rows None none = ([], refl, subst (AllZip (IsTableOf Says) []) (sym none) tt)
if_any_read Says name rows (Some d) is = (elements is.items, rw is.is_array refl, is.each)

-- ---- when arrivals come

-- a word that is read is the one for it
word_said : (word : List ℕ) (come : Arrivals) → come_of word ≡ Ok come → word ≡ word_of come
word_said word come h = elim (cases_Bool (bytes_eq word (word_of Before))) [
  | inl before ↦ let is : Before ≡ come =
      (let found = rw before at h in cc) in (bytes_eq-Decides word (word_of Before)).0 before ∙ ap word_of is
  | inr other ↦ (let later = rw other at h in elim (cases_Bool (bytes_eq word (word_of During))) [
    | inl during ↦ let is : During ≡ come =
        (let found = rw during at later in cc) in (bytes_eq-Decides word (word_of During)).0 during ∙ ap word_of is
    | inr neither ↦ absurd (let none = rw neither at later in cc)
  ])
]

-- its word is read
word_read : (come : Arrivals) → come_of (word_of come) ≡ Ok come
word_read Before = refl
word_read During = refl

-- when arrivals come, as it is read, is what the key says
come_said : (o : Option Data) (come : Arrivals) → option_map_or come_from o (Ok Before) ≡ Ok come → SaysArrivals o come
unfolding come_from
come_said None come h = let before : Before ≡ come = cc in sym before
come_said (Some d) come h =
    let (word, at, is) = bind_ok _ _ _ h in
    text_is d word (ok_or_ok _ _ _ at) ∙ ap string (word_said word come is)

-- what the key says is read
come_read : (o : Option Data) (come : Arrivals) → SaysArrivals o come → option_map_or come_from o (Ok Before) ≡ Ok come
unfolding come_from
come_read None come says = ap Ok (sym says)
come_read (Some d) come says = rw says (word_read come)

-- ---- documents

-- a document that is read is readable
document_said : (document : Members) (m : SetupRows) → setup_in document ≡ Ok m → IsReadableDocument document m
unfolding setup_in lists_at
document_said document m h =
    let (lists, lists_are, h1) = bind_ok _ _ _ h in
    let (u, counted, last) = bind_ok _ _ _ h1 in
    let (v, known, g1) = bind_ok _ _ _ lists_are in
    let (stores, stores_at, g2) = bind_ok _ _ _ g1 in
    let (routes, routes_at, g3) = bind_ok _ _ _ g2 in
    let (limits, limits_at, g4) = bind_ok _ _ _ g3 in
    let (come, come_is, g5) = bind_ok _ _ _ g4 in
    let found : Lists = record { stores = stores; routes = routes; limits = limits; come = come } in
    let same : found ≡ lists = cc in
    let rows : AreRowsOf found m =
    subst (λ l. AreRowsOf l m) (sym same) (rows_of_said lists m (counts_said lists u counted) last) in
    record {
      only = (has_only_decides document_keys document).0 (test_ok _ _ _ known);
      stores = rows_at_said SaysStore name.Store stores m.stores document stores_at rows.stores;
      routes = if_any_said SaysRoute name.Route routes m.routes (value_at name.Route document) routes_at rows.routes;
      limits = if_any_said SaysLimit name.Limit limits m.limits (value_at name.Limit document) limits_at rows.limits;
      come = come_said (value_at name.Arrivals document) m.come
          (come_is ∙ ap Ok rows.come);
      within = rows.within;
    }

-- a readable document is read
document_read : (document : Members) (m : SetupRows) → IsReadableDocument document m → setup_in document ≡ Ok m
unfolding setup_in lists_at
document_read document m h =
    let s = h.stores.is in
    let (routes, routes_at, route_tables) =
    if_any_read SaysRoute name.Route m.routes (value_at name.Route document) h.routes in
    let (limits, limits_at, limit_tables) =
    if_any_read SaysLimit name.Limit m.limits (value_at name.Limit document) h.limits in
    let come = come_read (value_at name.Arrivals document) m.come h.come in
    let lists : Lists = record { stores = elements s.items; routes = routes; limits = limits; come = m.come } in
    let store_count = AllZip-long (IsTableOf SaysStore) (elements s.items) m.stores s.each in
    let route_count = AllZip-long (IsTableOf SaysRoute) routes m.routes route_tables in
    let limit_count = AllZip-long (IsTableOf SaysLimit) limits m.limits limit_tables in
    let w = h.within in
    let counted : AreCounted lists = record {
      has_store = omega (arith, store_count, w.stores.has_store);
      stores = omega (arith, store_count, w.stores.at_most);
      routes = omega (arith, route_count, w.routes.at_most);
      limits = omega (arith, limit_count, w.limits.at_most);
    } in
    let rows : AreRowsOf lists m =
    record { stores = s.each; routes = route_tables; limits = limit_tables; come = refl; within = w } in
    let lists_are : lists_at document ≡ Ok lists =
    rw (
      (has_only_decides document_keys document).1 h.only,
      h.stores.has,
      s.is_array,
      routes_at,
      limits_at,
      come,
    ) refl in
    rw (lists_are, counts_read lists counted) (rows_of_read lists m rows)

-- ---- texts

-- octets that are read are those of a readable setup
pub setup_said : (octets : List ℕ) (m : SetupRows) → setup_of octets ≡ Ok m → IsReadableSetup octets m
unfolding setup_of document_of
setup_said octets m h =
    let (document, is, says) = bind_ok _ _ _ h in
    let (text, decoded, parsed) = bind_ok _ _ _ is in
    let (utf8, same) = cond_ok (is_utf8 octets) octets SetupText text decoded in
    record {
      utf8 = IsUtf8-from_is_utf8 octets utf8;
      document = document;
      parsed = ap parse_document same ∙ ok_or_ok _ _ _ parsed;
      readable = document_said document m says;
    }

-- the octets of a readable setup are read
pub setup_read : (octets : List ℕ) (m : SetupRows) → IsReadableSetup octets m → setup_of octets ≡ Ok m
unfolding setup_of document_of
setup_read octets m h = rw (is_utf8-from_IsUtf8 octets h.utf8, h.parsed) (document_read h.document m h.readable)
