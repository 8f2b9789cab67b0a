-- Which packets a route takes into a store.
use Rattle.std.proofs.Common.{◌≡◌, ℕ, Bool, true, false, ◌==◌, ◌||◌, List, [], ◌∷◌, length, map, get_or}
use Rattle.std.proofs.Common.{refl, ap, ◌∙◌, arith}
use Rattle.std.specs.Prelude.{if◌then◌else◌, bytes_eq, nat_lt, All, Contains, IsTrue}
use Rattle.std.specs.List.{filter, fold, list_any}
use Rattle.std.proofs.lemmas.Bool.{lt-ltb, ne_eqb, or_left, or_right}
use Rattle.std.proofs.lemmas.List.Elements.{All-append, All-cons, All-filter, All-head, All-tail}
use Rattle.std.proofs.lemmas.List.Folds.{list_any_at, list_any_none}
use Rattle.std.proofs.lemmas.Slice.Eq.{bytes_eq-Decides}
use Rattle.mm_base.specs.declared.rows.RouteRow.{RouteRow}
use Rattle.mm_base.specs.declared.rows.StoreRow.{StoreRow}
use Rattle.mm_packet.specs.Packet.{IsTelecommand, IsTelemetry}
use Rattle.mm_packet.specs.declared.header.PacketType.{PacketType}
use Rattle.mm_packet.specs.declared.header.PacketType.TheVariants.{Telecommand, Telemetry}
use Rattle.mm_problem.specs.Setup.{IsSetup, SetupRows}
use Rattle.mm_control.specs.Routes.{has_row, is_before, is_for, with_row}
use Rattle.mm_desk.specs.declared.held.Held.{Held}
use Rattle.mm_memory.specs.Holdings.{has_id, memory_of, opened}
use Rattle.mm_memory.specs.Recording.{is_routed, row_for}
use Rattle.mm_run.specs.Types.{Holdings, SpacePacket}
use Rattle.mm_run.specs.Untaken.{HasRoutesToStores, is_untaken}

-- what holds of each route holds of each row of a table that they are added to
table_keeps : (P : RouteRow → Type 0) (routes rows : List RouteRow) → All P rows → All P routes
    → All P (fold (λ rows row. with_row row rows) rows routes)
table_keeps P [] rows had each = had
table_keeps P (r ∷ rs) rows had each = table_keeps P rs (with_row r rows)
    (All-append P (filter (λ x. is_before x r) rows) (r ∷ filter (λ x. is_before r x) rows)
    (All-filter (λ x. is_before x r) P rows had)
    (All-cons P r (filter (λ x. is_before r x) rows) (All-head P r rs each)
    (All-filter (λ x. is_before r x) P rows had)))
    (All-tail P r rs each)

-- a store of a setup is found among those of its memory
opened_found : (stores : List StoreRow) (id : List ℕ) → Contains (map (λ s. s.id) stores) id
    → list_any (has_id id) (map opened stores) ≡ true
opened_found stores id found =
    by_ids stores ∙ list_any_at (λ x. bytes_eq x id) (map (λ s. s.id) stores) found.0 id found.1
    (ap (λ x. bytes_eq x id) found.2 ∙ (bytes_eq-Decides id id).1 refl)
  where
    by_ids : (stores : List StoreRow)
        → list_any (has_id id) (map opened stores) ≡ list_any (λ x. bytes_eq x id) (map (λ s. s.id) stores)
    by_ids [] = refl
    by_ids (s ∷ ss) = ap (λ b. bytes_eq s.id id || b) (by_ids ss)

-- in the memory of a setup each route leads to a store
pub setup_has_routes_to_stores : (rows : SetupRows) → IsSetup rows → HasRoutesToStores (memory_of rows)
setup_has_routes_to_stores rows setup =
    table_keeps (λ r. IsTrue (list_any (has_id r.store) (map opened rows.stores))) rows.routes []
    (λ k d within. absurd (omega (arith, within)))
    (λ k d within. let route = setup.routes.each k d within in
    opened_found rows.stores (get_or rows.routes k d).store route.store)

-- telemetry is routed to a store where the table has its row
routed : (routes : List RouteRow) (id : List ℕ) (p : SpacePacket) → IsTelemetry p.kind
    → is_routed routes id p ≡ has_row (row_for id p) routes
routed routes id p = elim p.kind as (λ (kind : PacketType). IsTelemetry kind
    → is_routed routes id (record p { kind = kind }) ≡ has_row (row_for id p) routes) [
      | Telecommand source ↦ λ never. absurd never
      | Telemetry counter destination time ↦ λ telemetry. refl
    ]

-- a telecommand is routed to no store
unrouted : (routes : List RouteRow) (id : List ℕ) (p : SpacePacket) → IsTelecommand p.kind
    → is_routed routes id p ≡ false
unrouted routes id p = elim p.kind as (λ (kind : PacketType). IsTelecommand kind
    → is_routed routes id (record p { kind = kind }) ≡ false) [
      | Telecommand source ↦ λ telecommand. refl
      | Telemetry counter destination time ↦ λ never. absurd never
    ]

-- the rows of a report type lead to each store once if the table has its row, and otherwise not
abbrev LeadOnce : List RouteRow → SpacePacket → List RouteRow → Type 0
LeadOnce routes p rows = (id : List ℕ)
    → filter (bytes_eq id) (map (λ r. r.store) rows) ≡ (if has_row (row_for id p) routes then id ∷ [] else [])

-- whether a list has one element, which is told of any
is_one : (id : List ℕ) (b : Bool) (ids : List (List ℕ)) → ids ≡ (if b then id ∷ [] else []) → b ≡ nat_lt 0 (length ids)
is_one id true ids one = rw one refl
is_one id false ids one = rw one refl

-- a store has the identifier of a store that passes, where this one is found
passes_found : (f : List ℕ → Bool) (id : List ℕ) (stores : List Held) → list_any (has_id id) stores ≡ true → f id ≡ true
    → list_any (λ h. f h.id) stores ≡ true
passes_found f id [] found passes = cc
passes_found f id (h ∷ hs) found passes =
    by_test (bytes_eq h.id id) refl found (λ later. passes_found f id hs later passes)
  where
    by_test : (b : Bool) → bytes_eq h.id id ≡ b → (b || list_any (has_id id) hs) ≡ true
        → (list_any (has_id id) hs ≡ true → list_any (λ h. f h.id) hs ≡ true)
        → (f h.id || list_any (λ h. f h.id) hs) ≡ true
    by_test true same rest later = or_left (f h.id) (list_any (λ h. f h.id) hs)
        (ap f ((bytes_eq-Decides h.id id).0 same) ∙ passes)
    by_test false other rest later = or_right (f h.id) (list_any (λ h. f h.id) hs) (later rest)

-- no route takes telemetry into a store exactly if there is no row for its report type
pub untaken_telemetry : (memory : Holdings) (p : SpacePacket) (rows : List RouteRow) → IsTelemetry p.kind
    → HasRoutesToStores memory
    → rows ≡ filter (is_for p.header.apid p.header.service p.header.subtype) memory.routes
    → LeadOnce memory.routes p rows → (length rows == 0) ≡ is_untaken memory p
untaken_telemetry memory p [] telemetry to_stores are once =
    rw (list_any_none (λ h. is_routed memory.routes h.id p) memory.stores (λ k d within.
    let id = (get_or memory.stores k d).id in
    routed memory.routes id p telemetry ∙ is_one id (has_row (row_for id p) memory.routes) [] (once id))) refl
untaken_telemetry memory p (r ∷ rest) telemetry to_stores are once =
    let P : RouteRow → Type 0 = λ x. IsTrue (list_any (has_id x.store) memory.stores) in
    let for_type = is_for p.header.apid p.header.service p.header.subtype in
    let led = All-head P r rest (rw (← are) at (All-filter for_type P memory.routes to_stores)) in
    let same : bytes_eq r.store r.store ≡ true = (bytes_eq-Decides r.store r.store).1 refl in
    let ids = r.store ∷ filter (bytes_eq r.store) (map (λ x. x.store) rest) in
    let found = is_one r.store (has_row (row_for r.store p) memory.routes) ids (rw same at (once r.store)) in
    let some : (length (r ∷ rest) == 0) ≡ false = ne_eqb (length (r ∷ rest)) 0 (λ none. omega (arith, none)) in
    let more : nat_lt 0 (length ids) ≡ true = lt-ltb 0 (length ids) (omega arith) in
    rw (
      passes_found (λ id. is_routed memory.routes id p) r.store memory.stores led
          (routed memory.routes r.store p telemetry ∙ found ∙ more),
      some,
    ) refl

-- no route takes a telecommand
pub untaken_telecommand : (memory : Holdings) (p : SpacePacket) → IsTelecommand p.kind → is_untaken memory p ≡ true
untaken_telecommand memory p telecommand =
    rw (list_any_none (λ h. is_routed memory.routes h.id p) memory.stores
    (λ k d within. unrouted memory.routes (get_or memory.stores k d).id p telecommand)) refl
