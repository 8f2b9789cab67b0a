-- The courses of dump orders.
use Rattle.std.specs.Prelude.{◌≡◌, ℕ, ◌+◌, ◌<◌, ◌==◌, List, [], ◌++◌, length, map, filter, flat_map, fold, sum_by}
use Rattle.std.specs.Prelude.{slice_index_or, All, Option, Some, None, suc}
use Rattle.mm_store.specs.declared.stored.Stored.{Stored}
use Rattle.mm_desk.specs.declared.entry.Entry.{Entry}
use Rattle.mm_desk.specs.Orders.{IsOrderOf}
use Rattle.mm_shared.specs.Stores.{id_at}
use Rattle.mm_dump.specs.declared.order.Order.{Order}
use Rattle.mm_dump.specs.declared.order.OrderBroken.{OrderBroken}
use Rattle.mm_dump.specs.declared.order.OrderBroken.TheVariants.{LinkFailed, NoMemory}
use Rattle.mm_dump.specs.Broken.{IsBrokenOrder, unsent_at}
use Rattle.mm_dump.specs.Sending.{Sent, all_sent}

-- the course of an order: the seat that carried it out, its calls, which of the packets that it was given were sent and
-- which the link did not take, and why it broke, if it broke
pub record Course : Type 0 where
  pub order : Order
  pub seat : ℕ
  pub calls : List Entry
  pub sent : List Stored
  pub unsent : List Stored
  pub why : Option OrderBroken

-- a whole order, which sent all that it was given
pub record IsWhole (c : Course) : Type 0 where
  pub order : IsOrderOf c.seat c.order.amount c.sent c.calls
  pub all : c.unsent ≡ []

-- an order that broke for this cause and was aborted: what it was given was sent, except the packet that the link did
-- not take
pub record IsBroken (why : OrderBroken) (c : Course) : Type 0 where
  pub order : IsBrokenOrder c.seat c.order.amount (c.sent ++ c.unsent) c.calls
  pub last : length c.unsent ≡ unsent_at why

-- how an order ended: it is whole if there is no cause, and otherwise it broke for this cause
abbrev pub EndedAs : Option OrderBroken → Course → Type 0
EndedAs None c = IsWhole c
EndedAs (Some why) c = IsBroken why c

-- an order was carried out: it is whole, or it broke
abbrev pub IsCourse : Course → Type 0
IsCourse c = EndedAs c.why c

-- the worse of two causes: out of memory, then a link that failed
abbrev pub worse : Option OrderBroken → Option OrderBroken → Option OrderBroken
worse None other = other
worse (Some NoMemory) other = Some NoMemory
worse (Some LinkFailed) None = Some LinkFailed
worse (Some LinkFailed) (Some why) = Some why

-- the worst of causes; none if there is none
abbrev pub worst_of : List (Option OrderBroken) → Option OrderBroken
worst_of whys = fold worse None whys

-- the worst cause for which one of these orders broke; none if none broke
abbrev pub worst_in : List Course → Option OrderBroken
worst_in courses = worst_of (map (λ c. c.why) courses)

-- orders were carried out one after another, and `Is` holds of each; the last alone may have broken, and this is the
-- cause, if there is one
pub record AreCourses (Is : Course → Type 0) (why : Option OrderBroken) (courses : List Course) : Type 0 where
  pub each : All Is courses
  pub early : (i : ℕ) (d : Course) → suc i < length courses → (slice_index_or courses i d).why ≡ None
  pub cause : worst_in courses ≡ why

-- the calls of orders on the store at a place
abbrev pub calls_at : ℕ → List Course → List Entry
calls_at place courses = flat_map (λ c. c.calls) (filter (λ c. c.order.place == place) courses)

-- what orders sent, one after another, from stores with these identifiers
abbrev pub sent_by : List (List ℕ) → List Course → List Sent
sent_by ids courses = flat_map (λ c. all_sent (id_at ids c.order.place) c.sent) courses

-- how many sends of orders failed: one for each packet that the link did not take
abbrev pub failed_by : List Course → ℕ
failed_by courses = sum_by (λ c. length c.unsent) courses

-- how many blocks of the window orders spent: one for each packet sent, and one for each send that failed
abbrev pub spent_by : List Course → ℕ
spent_by courses = sum_by (λ c. length c.sent + length c.unsent) courses
