-- What is read in a table, and what the table says.
use Rattle.std.proofs.Common.{◌≡◌, ◌≢◌, ℕ, ◌+◌, ◌≤◌, Bool, true, false, not, ◌&&◌, ◌||◌, ◌==◌, List, length}
use Rattle.std.proofs.Common.{Option, Some, None, Result, Ok, refl, sym, ap, subst, ◌∙◌, arith, inl, inr}
use Rattle.std.specs.Prelude.{All, bytes_eq}
use Rattle.std.specs.Bool.{Decides}
use Rattle.std.specs.List.{list_any}
use Rattle.std.proofs.lemmas.Bool.{cases_Bool}
use Rattle.std.proofs.lemmas.Bool.Decides.{Decides-eqb, Decides-not, Decides-and, Decides-like, Decides-by_and}
use Rattle.std.proofs.lemmas.Slice.Eq.{bytes_eq-Decides}
use Rattle.toml.specs.Data.{Data, string, Members, as_table}
use Rattle.mm_problem.specs.declared.fault.Name.{Name}
use Rattle.mm_problem.specs.declared.fault.Name.TheVariants as name
use Rattle.mm_base.specs.declared.kind.Kind.{Kind}
use Rattle.mm_base.specs.declared.kind.Kind.TheVariants.{Circular, Bounded}
use Rattle.mm_base.specs.declared.limits.TheConstants.{MAX_BLOCKS, MAX_CHANNEL, MAX_APID}
use Rattle.mm_base.specs.declared.rows.StoreRow.{StoreRow}
use Rattle.mm_base.specs.declared.rows.RouteRow.{RouteRow}
use Rattle.mm_base.specs.declared.rows.LimitRow.{LimitRow}
use Rattle.mm_problem.specs.Keys.{has_only, value_at}
use Rattle.mm_base.specs.Kind.{word_of}
use Rattle.mm_base.specs.Id.{IsIdField}
use Rattle.mm_base.proofs.IdFields.{field_of-IsIdField}
use Rattle.mm_problem.specs.ReadableSetup.{SaysText, SaysId, SaysNumberIfAny, SaysStore, SaysRoute, SaysLimit}
use Rattle.mm_problem.specs.ReadableSetup.{IsTableOf}
use Rattle.mm_problem.specs.Setup.{IsStoreRow, StartFits, HasId, HaveOtherIds, IsRouteRow, IsLimitRow}
use Rattle.mm_problem.specs.Setup.{HaveOtherChannels}
use Rattle.mm_base.specs.SameRoutes.{same_route}
use Rattle.mm_problem.specs.declared.fault.Fault.{Fault}
use Rattle.mm_problem.specs.Tables.{store_keys, route_keys, limit_keys, table_of, kind_of, kind_at, start_from}
use Rattle.mm_problem.specs.Tables.{row_after, store_at, new_store, route_at, new_route, limit_at, new_limit}
use Rattle.mm_problem.proofs.FieldLaws.{table_said, has_only_decides, found_decides, text_said, id_said, id_read}
use Rattle.mm_problem.proofs.FieldLaws.{number_said, number_read}
use Rattle.mm_base.proofs.ReadingSteps.{bind_ok, test_ok, ok_or_ok, ok_same}
use Rattle.mm_problem.proofs.RowLaws.{IsNext}

-- ---- the keys of a table

-- a table that is read has no other keys than these
table_of_said : (row : ℕ) (element : Name) (keys : List Name) (d : Data) (ms : Members)
    → table_of row element keys d ≡ Ok ms → (as_table d ≡ Some ms) × (has_only keys ms ≡ true)
unfolding table_of
table_of_said row element keys d ms h =
    let (found, is, h1) = bind_ok _ _ _ h in
    let (u, known, last) = bind_ok _ _ _ h1 in
    let same : found ≡ ms = ok_same _ _ last in
    (ok_or_ok _ _ _ is ∙ ap Some same, ap (has_only keys) (sym same) ∙ test_ok _ _ _ known)

-- ---- rows that differ from a row

-- the negation of a choice
not_or : (a b : Bool) → not (a || b) ≡ (not a && not b)
not_or true b = refl
not_or false b = refl

-- the test that no element has a property
none_decides : {X : Type 0} (p : X → Bool) (P : X → Type 0) → ((x : X) → Decides (p x) (P x)) → (xs : List X)
    → Decides (not (list_any p xs)) (All (λ x. ¬ (P x)) xs)
none_decides p P each = Decides-by_and (λ x. not (p x)) (λ x. ¬ (P x)) (λ xs. not (list_any p xs))
    (λ x. Decides-not (p x) (each x)) refl (λ x xs. not_or (p x) (list_any p xs))

-- the test of two routes
same_route_decides : (a b : RouteRow) → Decides (same_route a b) (a ≡ b)
same_route_decides a b = Decides-like (same_route a b)
    (λ h. λ i. record { apid = h.0.0.0 i; service = h.0.0.1 i; subtype = h.0.1 i; store = h.1 i })
    (λ h. (((λ i. (h i).apid, λ i. (h i).service), λ i. (h i).subtype), λ i. (h i).store))
    (Decides-and _ _ (Decides-and _ _ (Decides-and _ _ (Decides-eqb a.apid b.apid) (Decides-eqb a.service b.service))
    (Decides-eqb a.subtype b.subtype)) (bytes_eq-Decides a.store b.store))

-- ---- one row after another

module _ {R : Type 0} (row_at : ℕ → Data → Result R Fault) (new_row : List R → R → Result (Unit {0}) Fault) where
  -- a row that is read is what its table says
  row_after_said : (Says : Data → R → Type 0) (P : R → Type 0) (D : R → R → Type 0)
      → ((number : ℕ) (earlier : List R) (d : Data) (row : R) (u : Unit {0}) → row_at number d ≡ Ok row
      → new_row earlier row ≡ Ok u → IsNext Says P D earlier d row)
      → (earlier : List R) (d : Data) (r : R) → row_after row_at new_row earlier d ≡ Ok r → IsNext Says P D earlier d r
  unfolding row_after
  row_after_said Says P D said earlier d r h =
      let (row, at, more) = bind_ok _ _ _ h in
      let (u, new, last) = bind_ok _ _ _ more in
      subst (IsNext Says P D earlier d) (ok_same row r last) (said (length earlier + 1) earlier d row u at new)

  -- a new row that its table says is read
  row_after_read : (earlier : List R) (d : Data) (r : R) → row_at (length earlier + 1) d ≡ Ok r
      → new_row earlier r ≡ Ok tt → row_after row_at new_row earlier d ≡ Ok r
  unfolding row_after
  row_after_read earlier d r at new = rw (at, new) refl

-- ---- stores

-- a kind that is read has this word
kind_of_said : (row : ℕ) (word : List ℕ) (kind : Kind) → kind_of row word ≡ Ok kind → word ≡ word_of kind
kind_of_said row word kind h = elim (cases_Bool (bytes_eq word (word_of Circular))) [
  | inl circular ↦ let is : Circular ≡ kind =
      (let found = rw circular at h in cc) in (bytes_eq-Decides word (word_of Circular)).0 circular ∙ ap word_of is
  | inr other ↦ (let later = rw other at h in elim (cases_Bool (bytes_eq word (word_of Bounded))) [
    | inl bounded ↦ let is : Bounded ≡ kind =
        (let found = rw bounded at later in cc) in (bytes_eq-Decides word (word_of Bounded)).0 bounded ∙ ap word_of is
    | inr neither ↦ absurd (let none = rw neither at later in cc)
  ])
]

-- the word of a kind is read as the kind
kind_of_read : (row : ℕ) (kind : Kind) → kind_of row (word_of kind) ≡ Ok kind
kind_of_read row Circular = refl
kind_of_read row Bounded = refl

-- a kind that is read is what the key has
kind_said : (row : ℕ) (ms : Members) (kind : Kind) → kind_at row ms ≡ Ok kind → SaysText ms name.Type (word_of kind)
unfolding kind_at
kind_said row ms kind h =
    let (word, at, is) = bind_ok _ _ _ h in
    text_said row name.Type ms word at ∙ ap (λ text. Some (string text)) (kind_of_said row word kind is)

-- the kind that the key has is read
kind_read : (row : ℕ) (ms : Members) (kind : Kind) → SaysText ms name.Type (word_of kind) → kind_at row ms ≡ Ok kind
unfolding kind_at
kind_read row ms kind says = rw says (kind_of_read row kind)

-- a start volume that is read is what the key has, or 0
start_from_said : (row size : ℕ) (ms : Members) (n : ℕ) (o : Option Data) → o ≡ value_at name.Start ms
    → start_from row size ms o ≡ Ok n → SaysNumberIfAny o n × (n ≤ size)
start_from_said row size ms n None is h = let zero_is : n ≡ 0 = cc in (zero_is, omega arith)
start_from_said row size ms n (Some d) is h = let (says, above, below) =
    number_said row name.Start ms 0 size n h in (cc, below)

-- the start volume that the key has, or 0, is read
start_from_read : (row size : ℕ) (ms : Members) (n : ℕ) (o : Option Data) → o ≡ value_at name.Start ms
    → SaysNumberIfAny o n → n ≤ size → start_from row size ms o ≡ Ok n
start_from_read row size ms n None is says below = ap Ok (sym says)
start_from_read row size ms n (Some d) is says below =
    number_read row name.Start ms 0 size n (sym is ∙ ap Some says) (omega arith) below

-- an identifier that the key has is the field of one
id_has_field : {ms : Members} {name : Name} {id : List ℕ} → SaysId ms name id → IsIdField id
id_has_field says = rw says.padded (field_of-IsIdField says.text says.well_formed)

-- a store within the ranges of the profile that begins within its size
pub record IsReadStore (r : StoreRow) : Type 0 where
  pub row : IsStoreRow r
  pub start : StartFits r
  pub id : HasId r

-- a store that is read is what the table says
store_said : (row : ℕ) (d : Data) (r : StoreRow) → store_at row d ≡ Ok r → IsTableOf SaysStore d r × IsReadStore r
unfolding store_at
store_said row d r h =
    let (ms, found, h2) = bind_ok _ _ _ h in
    let (is, known) = table_of_said row name.Store store_keys d ms found in
    let (id, id_is, h3) = bind_ok _ _ _ h2 in
    let (size, size_is, h4) = bind_ok _ _ _ h3 in
    let (kind, kind_is, h5) = bind_ok _ _ _ h4 in
    let (channel, channel_is, h6) = bind_ok _ _ _ h5 in
    let (start, start_is, last) = bind_ok _ _ _ h6 in
    let size_says = number_said row name.Size ms 1 MAX_BLOCKS size size_is in
    let channel_says = number_said row name.Channel ms 0 MAX_CHANNEL channel channel_is in
    let start_says = start_from_said row size ms start (value_at name.Start ms) refl start_is in
    let row_of : StoreRow = record { id = id; size = size; start = start; kind = kind; channel = channel } in
    let same : row_of ≡ r = ok_same _ _ last in
    subst (λ r. IsTableOf SaysStore d r × IsReadStore r) same (
      record {
        members = ms;
        is_table = table_said d ms is;
        says = record {
          only = (has_only_decides store_keys ms).0 known;
          id = id_said row name.Id ms id id_is;
          size = size_says.0;
          kind = kind_said row ms kind kind_is;
          channel = channel_says.0;
          start = start_says.0;
        };
      },
      record {
        row = record {
          has_room = size_says.1;
          size = size_says.2;
          start = omega (arith, start_says.1, size_says.2);
          channel = channel_says.2;
        };
        start = start_says.1;
        id = id_has_field (id_said row name.Id ms id id_is);
      },
    )

-- the store that a table says is read
store_read : (row : ℕ) (d : Data) (r : StoreRow) → IsTableOf SaysStore d r → IsReadStore r → store_at row d ≡ Ok r
unfolding store_at table_of
store_read row d r h fits =
    let says = h.says in
    rw (
      h.is_table,
      (has_only_decides store_keys h.members).1 says.only,
      id_read row name.Id h.members r.id says.id,
      number_read row name.Size h.members 1 MAX_BLOCKS r.size says.size fits.row.has_room fits.row.size,
      kind_read row h.members r.kind says.kind,
      number_read row name.Channel h.members 0 MAX_CHANNEL r.channel says.channel (omega arith) fits.row.channel,
      start_from_read row r.size h.members r.start (value_at name.Start h.members) refl says.start fits.start,
    ) refl

-- a store that passes the test has an identifier of its own
pub new_store_said : (earlier : List StoreRow) (row : StoreRow) (u : Unit {0}) → new_store earlier row ≡ Ok u
    → All (λ e. HaveOtherIds e row) earlier
new_store_said earlier row u new =
    (none_decides (λ e. bytes_eq e.id row.id) (λ e. e.id ≡ row.id) (λ e. bytes_eq-Decides e.id row.id) earlier).0
    (test_ok _ _ _ new)

-- a store that is read next is new
pub next_store_said : (earlier : List StoreRow) (d : Data) (r : StoreRow)
    → row_after store_at new_store earlier d ≡ Ok r → IsNext (IsTableOf SaysStore) IsReadStore HaveOtherIds earlier d r
next_store_said = row_after_said store_at new_store (IsTableOf SaysStore) IsReadStore HaveOtherIds
    (λ number earlier d row u at new.
    let facts = store_said number d row at in
    record { says = facts.0; fits = facts.1; new = new_store_said earlier row u new })

-- a new store is read next
pub next_store_read : (earlier : List StoreRow) (d : Data) (r : StoreRow)
    → IsNext (IsTableOf SaysStore) IsReadStore HaveOtherIds earlier d r → row_after store_at new_store earlier d ≡ Ok r
next_store_read earlier d r h = row_after_read store_at new_store earlier d r
    (store_read (length earlier + 1) d r h.says h.fits)
    (rw ((none_decides (λ e. bytes_eq e.id r.id) (λ e. e.id ≡ r.id) (λ e. bytes_eq-Decides e.id r.id) earlier).1 h.new)
    refl)

-- ---- routes

-- a route that is read is what the table says
route_said : (row : ℕ) (d : Data) (r : RouteRow) → route_at row d ≡ Ok r → IsTableOf SaysRoute d r × (r.apid ≤ MAX_APID)
unfolding route_at
route_said row d r h =
    let (ms, found, h2) = bind_ok _ _ _ h in
    let (is, known) = table_of_said row name.Route route_keys d ms found in
    let (apid, apid_is, h3) = bind_ok _ _ _ h2 in
    let (service, service_is, h4) = bind_ok _ _ _ h3 in
    let (subtype, subtype_is, h5) = bind_ok _ _ _ h4 in
    let (store, store_is, last) = bind_ok _ _ _ h5 in
    let apid_says = number_said row name.Apid ms 0 MAX_APID apid apid_is in
    let service_says = number_said row name.Service ms 0 255 service service_is in
    let subtype_says = number_said row name.Subtype ms 0 255 subtype subtype_is in
    let row_of : RouteRow = record { apid = apid; service = service; subtype = subtype; store = store } in
    let same : row_of ≡ r = cc in
    subst (λ r. IsTableOf SaysRoute d r × (r.apid ≤ MAX_APID)) same (
      record {
        members = ms;
        is_table = table_said d ms is;
        says = record {
          only = (has_only_decides route_keys ms).0 known;
          apid = apid_says.0;
          service = record { says = service_says.0; octet = service_says.2 };
          subtype = record { says = subtype_says.0; octet = subtype_says.2 };
          store = id_said row name.Store ms store store_is;
        };
      },
      apid_says.2,
    )

-- the route that a table says is read
route_read : (row : ℕ) (d : Data) (r : RouteRow) → IsTableOf SaysRoute d r → r.apid ≤ MAX_APID → route_at row d ≡ Ok r
unfolding route_at table_of
route_read row d r h apid = rw (
  h.is_table,
  (has_only_decides route_keys h.members).1 h.says.only,
  number_read row name.Apid h.members 0 MAX_APID r.apid h.says.apid (omega arith) apid,
  number_read row name.Service h.members 0 255 r.service h.says.service.says (omega arith) h.says.service.octet,
  number_read row name.Subtype h.members 0 255 r.subtype h.says.subtype.says (omega arith) h.says.subtype.octet,
  id_read row name.Store h.members r.store h.says.store,
) refl

-- a route that is read next is new and of a store that there is
pub next_route_said : (stores : List StoreRow) (earlier : List RouteRow) (d : Data) (r : RouteRow) → row_after route_at
    (new_route stores) earlier d ≡ Ok r → IsNext (IsTableOf SaysRoute) (IsRouteRow stores) ◌≢◌ earlier d r
unfolding new_route
next_route_said stores = row_after_said route_at (new_route stores) (IsTableOf SaysRoute) (IsRouteRow stores) ◌≢◌
    (λ number earlier d row u at tests.
    let facts = route_said number d row at in
    let (v, stored, new) = bind_ok _ _ _ tests in
    record {
      says = facts.0;
      fits = record { apid = facts.1; store = (found_decides (λ s. s.id) stores row.store).0 (test_ok _ _ _ stored) };
      new = (none_decides (λ e. same_route e row) (λ e. e ≡ row) (λ e. same_route_decides e row) earlier).0
          (test_ok _ _ _ new);
    })

-- a new route of a store that there is is read next
pub next_route_read : (stores : List StoreRow) (earlier : List RouteRow) (d : Data) (r : RouteRow) → IsNext
    (IsTableOf SaysRoute) (IsRouteRow stores) ◌≢◌ earlier d r → row_after route_at (new_route stores) earlier d ≡ Ok r
unfolding new_route
next_route_read stores earlier d r h = row_after_read route_at (new_route stores) earlier d r
    (route_read (length earlier + 1) d r h.says h.fits.apid)
    (rw (
      (found_decides (λ s. s.id) stores r.store).1 h.fits.store,
      (none_decides (λ e. same_route e r) (λ e. e ≡ r) (λ e. same_route_decides e r) earlier).1 h.new,
    ) refl)

-- ---- limits

-- a limit that is read is what the table says
limit_said : (row : ℕ) (d : Data) (r : LimitRow) → limit_at row d ≡ Ok r → IsTableOf SaysLimit d r × IsLimitRow r
unfolding limit_at
limit_said row d r h =
    let (ms, found, h2) = bind_ok _ _ _ h in
    let (is, known) = table_of_said row name.Limit limit_keys d ms found in
    let (channel, channel_is, h3) = bind_ok _ _ _ h2 in
    let (blocks, blocks_is, last) = bind_ok _ _ _ h3 in
    let channel_says = number_said row name.Channel ms 0 MAX_CHANNEL channel channel_is in
    let blocks_says = number_said row name.Blocks ms 0 MAX_BLOCKS blocks blocks_is in
    let row_of : LimitRow = record { channel = channel; blocks = blocks } in
    let same : row_of ≡ r = cc in
    subst (λ r. IsTableOf SaysLimit d r × IsLimitRow r) same (
      record {
        members = ms;
        is_table = table_said d ms is;
        says = record {
          only = (has_only_decides limit_keys ms).0 known;
          channel = channel_says.0;
          blocks =
              blocks_says.0;
        };
      },
      record { channel = channel_says.2; blocks = blocks_says.2 },
    )

-- the limit that a table says is read
limit_read : (row : ℕ) (d : Data) (r : LimitRow) → IsTableOf SaysLimit d r → IsLimitRow r → limit_at row d ≡ Ok r
unfolding limit_at table_of
limit_read row d r h fits = rw (
  h.is_table,
  (has_only_decides limit_keys h.members).1 h.says.only,
  number_read row name.Channel h.members 0 MAX_CHANNEL r.channel h.says.channel (omega arith) fits.channel,
  number_read row name.Blocks h.members 0 MAX_BLOCKS r.blocks h.says.blocks (omega arith) fits.blocks,
) refl

-- a limit that passes the test is of a channel of its own
pub new_limit_said : (earlier : List LimitRow) (row : LimitRow) (u : Unit {0}) → new_limit earlier row ≡ Ok u
    → All (λ e. HaveOtherChannels e row) earlier
new_limit_said earlier row u new =
    (none_decides (λ e. e.channel == row.channel) (λ e. e.channel ≡ row.channel)
    (λ e. Decides-eqb e.channel row.channel) earlier).0 (test_ok _ _ _ new)

-- a limit that is read next is of a new channel
pub next_limit_said : (earlier : List LimitRow) (d : Data) (r : LimitRow) → row_after limit_at new_limit earlier d
    ≡ Ok r → IsNext (IsTableOf SaysLimit) IsLimitRow HaveOtherChannels earlier d r
next_limit_said = row_after_said limit_at new_limit (IsTableOf SaysLimit) IsLimitRow HaveOtherChannels
    (λ number earlier d row u at new.
    let facts = limit_said number d row at in
    record { says = facts.0; fits = facts.1; new = new_limit_said earlier row u new })

-- a limit of a new channel is read next
pub next_limit_read : (earlier : List LimitRow) (d : Data) (r : LimitRow) → IsNext
    (IsTableOf SaysLimit) IsLimitRow HaveOtherChannels earlier d r → row_after limit_at new_limit earlier d ≡ Ok r
next_limit_read earlier d r h = row_after_read limit_at new_limit earlier d r
    (limit_read (length earlier + 1) d r h.says h.fits)
    (rw ((none_decides (λ e. e.channel == r.channel) (λ e. e.channel ≡ r.channel)
    (λ e. Decides-eqb e.channel r.channel) earlier).1 h.new) refl)
