-- What a step's dump is given, and what it leaves: its stores, and its links.
use Rattle.std.specs.Prelude.{◌≡◌, ◌≢◌, ℕ, ◌+◌, ◌-◌, ◌<◌, ◌≤◌, ◌^◌, ◌==◌, List, [], ◌∷◌, ◌++◌, length, map, filter}
use Rattle.std.specs.Prelude.{flat_map, sum_by, count_by, All, AllPairs, Any, Option, None}
use Rattle.std.specs.List.{AllZip}
use Rattle.mm_base.specs.declared.limits.TheConstants.{MAX_STORES}
use Rattle.mm_store.specs.declared.stored.Stored.{Stored}
use Rattle.mm_desk.specs.declared.desk.TheConstants.{MAX_SEATS}
use Rattle.mm_desk.specs.declared.entry.Entry.{Entry}
use Rattle.mm_desk.specs.declared.held.Held.{Held}
use Rattle.mm_desk.specs.Machine.{State, IsState}
use Rattle.mm_desk.specs.Orders.{IsOrderOf}
use Rattle.mm_desk.specs.Runs.{IsRun, opening_at}
use Rattle.mm_shared.specs.declared.stores.OpenStores.{OpenStores}
use Rattle.mm_shared.specs.Stores.{id_at, labels_of, states_of, stores_in, AreAtRest}
use Rattle.mm_dump.specs.declared.order.Order.{Order}
use Rattle.mm_dump.specs.declared.order.OrderBroken.{OrderBroken}
use Rattle.mm_dump.specs.Courses.{Course, IsCourse, AreCourses, worst_of, worst_in, sent_by, failed_by}
use Rattle.mm_dump.specs.Sending.{Sent, all_sent}

-- few stores, links and orders; each order wants blocks of a store of its own, at which no retrieval is on, and each
-- link may fail once more
pub record MayDump {L : Type 0} (failed : L → ℕ) (orders : List Order) (stores : List Held)
    (links : List L) : Type 0 where
  pub lowest : 1 ≤ length links
  pub highest : length links ≤ MAX_SEATS
  pub few : length stores ≤ MAX_STORES
  pub few_orders : length orders ≤ MAX_STORES
  pub places : All (λ o. o.place < length stores) orders
  pub amounts : All (λ o. 1 ≤ o.amount) orders
  pub distinct : AllPairs (λ a b. a.place ≢ b.place) orders
  pub idle : All (λ o. (opening_at (states_of stores) o.place).retrieval ≡ None) orders
  pub room : All (λ l. failed l < 2 ^ 64 - 1) links

-- how many blocks orders want of the store at a place: none where no order names it
abbrev pub wanted : List Order → ℕ → ℕ
wanted orders place = sum_by (λ o. o.amount) (filter (λ o. o.place == place) orders)

-- how often a number stands in a list
abbrev pub times : ℕ → List ℕ → ℕ
times x xs = count_by (λ y. y == x) xs

-- the places of the stores that orders name
abbrev pub places_of : List Order → List ℕ
places_of orders = map (λ o. o.place) orders

-- how many orders were taken for the store at a place, where each link took the orders at these places
abbrev pub taken_at : List (List ℕ) → ℕ → ℕ
taken_at places place = sum_by (times place) places

-- each order was taken, by one link, once
abbrev pub AllTaken : List Order → List (List ℕ) → Type 0
AllTaken orders places = (k : ℕ) → taken_at places k ≡ times k (places_of orders)

-- these calls are one whole order of at most this many packets, through one seat, which was given these; where no
-- packet is wanted there is no call
pub record IsDumpOf (amount : ℕ) (gave : List Stored) (calls : List Entry) : Type 0 where
  pub none : amount ≡ 0 → (gave ≡ []) × (calls ≡ [])
  pub whole : 1 ≤ amount → (seat : ℕ) × IsOrderOf seat amount gave calls

-- a legal log leads a store from one state to another: the dump of at most this many packets, which gave these
pub record HasDumped (amount : ℕ) (gave : List Stored) (s t : State) : Type 0 where
  pub calls : List Entry
  pub run : IsRun s calls t
  pub dump : IsDumpOf amount gave calls

-- each link took what the stores at these places gave, one store after another, and none of its sends failed
unfoldable pub AllTook : {L : Type 0} → (L → List Sent) → (L → ℕ) → List (List ℕ) → (ℕ → List Stored)
    → List (List ℕ) → List L → List L → Type 0
AllTook sent failed ids gave [] [] [] = Unit {0}
AllTook sent failed ids gave (places ∷ more) (old ∷ olds) (new ∷ news) =
    (sent new ≡ sent old ++ flat_map (λ k. all_sent (id_at ids k) (gave k)) places) × (failed new ≡ failed old)
    × AllTook sent failed ids gave more olds news
AllTook sent failed ids gave more olds news = ⊥

-- every order was carried out whole, each by one link: what the store at each place gave, and at which places each link
-- carried out orders
pub record AllDumped {L : Type 0} (sent : L → List Sent) (failed : L → ℕ) (ids : List (List ℕ)) (orders : List Order)
    (before after : List State) (old new : List L) : Type 0 where
  pub gave : ℕ → List Stored
  pub places : List (List ℕ)
  pub stores : (k : ℕ) → k < length after
      → HasDumped (wanted orders k) (gave k) (opening_at before k) (opening_at after k)
  pub once : AllTaken orders places
  pub links : AllTook sent failed ids gave places old new

-- it is the order for the store at a place: it wants as much as all these orders want of that store, one block at least
pub record IsOrderFor (orders : List Order) (k : ℕ) (c : Course) : Type 0 where
  pub place : c.order.place ≡ k
  pub amount : c.order.amount ≡ wanted orders k
  pub some : 1 ≤ c.order.amount

-- a legal log leads a store from one state to another: the calls of its order, whole or broken, if its order was
-- taken, and otherwise no call
pub record HasTried (taken : ℕ) (c : Course) (s t : State) : Type 0 where
  pub run : IsRun s c.calls t
  pub none : taken ≡ 0 → (c.calls ≡ []) × (c.sent ≡ [])
  pub some : 0 < taken → IsCourse c

-- a link took what these orders sent, one after another; its last order alone may have broken, and its failures rose by
-- the sends that failed
pub record HasTaken {L : Type 0} (sent : L → List Sent) (failed : L → ℕ) (ids : List (List ℕ)) (courses : List Course)
    (old new : L) : Type 0 where
  pub all : sent new ≡ sent old ++ sent_by ids courses
  pub failures : failed new ≡ failed old + failed_by courses
  pub why : Option OrderBroken
  pub are : AreCourses IsCourse why courses

-- each link took what the orders at its places sent
unfoldable pub AllTried : {L : Type 0} → (L → List Sent) → (L → ℕ) → List (List ℕ) → (ℕ → Course)
    → List (List ℕ) → List L → List L → Type 0
AllTried sent failed ids course [] [] [] = Unit {0}
AllTried sent failed ids course (places ∷ more) (old ∷ olds) (new ∷ news) =
    HasTaken sent failed ids (map course places) old new × AllTried sent failed ids course more olds news
AllTried sent failed ids course more olds news = ⊥

-- orders were carried out, each by one link, and this is the worst cause for which one broke. All were carried out if
-- none broke, or if no order of some link broke
pub record AllSettled {L : Type 0} (sent : L → List Sent) (failed : L → ℕ) (ids : List (List ℕ)) (orders : List Order)
    (why : Option OrderBroken) (before after : List State) (old new : List L) : Type 0 where
  pub course : ℕ → Course
  pub places : List (List ℕ)
  pub stores : (k : ℕ) → k < length after
      → HasTried (taken_at places k) (course k) (opening_at before k) (opening_at after k)
  pub order_is : (k : ℕ) → 0 < taken_at places k → IsOrderFor orders k (course k)
  pub once : (k : ℕ) → taken_at places k ≤ times k (places_of orders)
  pub all : why ≡ None → AllTaken orders places
  pub others : Any (λ ks. worst_in (map course ks) ≡ None) places → AllTaken orders places
  pub links : AllTried sent failed ids course places old new
  pub cause : worst_of (map (λ ks. worst_in (map course ks)) places) ≡ why

-- a link has sent what it had sent before and then more, if anything, and no fewer of its sends have failed
pub record HasKept {L : Type 0} (sent : L → List Sent) (failed : L → ℕ) (old new : L) : Type 0 where
  pub more : List Sent
  pub all : sent new ≡ sent old ++ more
  pub failures : failed old ≤ failed new

-- each link keeps what it had sent
abbrev pub AllKept : {L : Type 0} → (L → List Sent) → (L → ℕ) → List L → List L → Type 0
AllKept sent failed olds news = AllZip (HasKept sent failed) olds news

-- how many packets links took, and how many of their sends failed
abbrev pub used_by : {L : Type 0} → (L → List Sent) → (L → ℕ) → List L → ℕ
used_by sent failed links = sum_by (λ l. length (sent l) + failed l) links

-- how many blocks orders want together
abbrev pub amount_of : List Order → ℕ
amount_of orders = sum_by (λ o. o.amount) orders

-- what a step's dump did over these links: the worst cause for which an order broke, if one broke, and how many blocks
-- of the window were spent
pub record CarriesOut {L : Type 0} (sent : L → List Sent) (failed : L → ℕ) (ids : List (List ℕ)) (orders : List Order)
    (before after : List State) (old new : List L) (broken : Option OrderBroken) (spent : ℕ) : Type 0 where
  -- what became of each order. With a link for each all were taken
  pub settled : AllSettled sent failed ids orders broken before after old new
  pub enough : length orders ≤ length old → AllTaken orders settled.places
  -- each link has sent what it had sent before
  pub kept : AllKept sent failed old new
  -- what was spent is what was sent and what failed, and no more than the orders want
  pub used : used_by sent failed new ≡ used_by sent failed old + spent
  pub within : spent ≤ amount_of orders

-- open stores as a dump leaves them: with their labels, sound, and with no worker
pub record LeavesStores (before after : OpenStores) : Type 0 where
  pub labels : labels_of (stores_in after) ≡ labels_of (stores_in before)
  pub sound : All (λ h. IsState h.state) (stores_in after)
  pub rest : AreAtRest after
