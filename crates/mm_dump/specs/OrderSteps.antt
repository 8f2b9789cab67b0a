-- The parts of an order. No public clause cites this module.
use Rattle.std.specs.Prelude.{◌≡◌, ℕ, ◌+◌, ◌<◌, ◌≤◌, List, [], ◌∷◌, ◌++◌, length, map, Option, Some, None, IfNone}
use Rattle.mm_store.specs.declared.stored.Stored.{Stored}
use Rattle.mm_desk.specs.declared.entry.Entry.{Entry}
use Rattle.mm_desk.specs.declared.event.Event.{Event}
use Rattle.mm_desk.specs.declared.event.Event.TheVariants.{Delete}
use Rattle.mm_desk.specs.declared.reply.Reply.{Reply}
use Rattle.mm_desk.specs.declared.state.Retrieval.{Retrieval}
use Rattle.mm_desk.specs.Machine.{State, step}
use Rattle.mm_desk.specs.Orders.{ended, given, last_time}
use Rattle.mm_desk.specs.Runs.{IsRun}
use Rattle.mm_shared.specs.Stores.{id_at}
use Rattle.mm_shared.specs.Views.{PortView, StoresView, with_call}
use Rattle.mm_dump.specs.declared.order.Order.{Order}
use Rattle.mm_dump.specs.declared.order.OrderBroken.{OrderBroken}
use Rattle.mm_dump.specs.Broken.{aborted, unsent_at}
use Rattle.mm_dump.specs.Courses.{Course, IsCourse}
use Rattle.mm_dump.specs.Sending.{Sent, all_sent}

-- the store of an order: its place, and its identifier
pub record OrderStore : Type 0 where
  pub place : ℕ
  pub id : List ℕ

abbrev pub order_store : ℕ → List ℕ → OrderStore
order_store place id = record { place = place; id = id }

-- a port of these stores, of which one is at this place
pub record IsPortAt (stores : StoresView) (place : ℕ) (port : PortView) : Type 0 where
  pub of : port.of.table ≡ stores.id
  pub within : place < stores.many

-- how far a worker is: its port, what was sent over its link, how many of the link's sends have failed, and how many
-- blocks of the window it spent
pub record Progress : Type 0 where
  pub port : PortView
  pub sent : List Sent
  pub failed : ℕ
  pub spent : ℕ

abbrev pub progress : {L : Type 0} → (L → List Sent) → (L → ℕ) → PortView → L → ℕ → Progress
progress sent failed port link spent = record { port = port; sent = sent link; failed = failed link; spent = spent }

-- one call was made through a port on the store at a place, whatever the reply
pub record CallsOnce (place : ℕ) (event : Event) (old new : PortView) : Type 0 where
  pub reply : Reply
  pub call : new ≡ with_call old place event reply

-- the packets up to a time were deleted; without a time no call was made
abbrev pub Deletes : ℕ → Option ℕ → PortView → PortView → Type 0
Deletes place None old new = new ≡ old
Deletes place (Some limit) old new = CallsOnce place (Delete limit) old new

-- a port with these calls more in its list, made on the store at a place
abbrev pub with_calls : ℕ → PortView → List Entry → PortView
with_calls place port calls = record port { list = port.list ++ map (λ e. (place, e)) calls }

-- a worker made these calls on a store, its link took these packets of the store and did not take those, and a block of
-- the window was spent for each
pub record Advances (store : OrderStore) (calls : List Entry) (sent unsent : List Stored)
    (a b : Progress) : Type 0 where
  pub port : b.port ≡ with_calls store.place a.port calls
  pub all : b.sent ≡ a.sent ++ all_sent store.id sent
  pub failures : b.failed ≡ a.failed + length unsent
  pub blocks : b.spent ≡ a.spent + length sent + length unsent

-- a store at which a retrieval is on replies to this call so that it is the expected one, and then no retrieval is on
pub record Ends (call expected : Entry) : Type 0 where
  pub is : (s : State) (q : Retrieval) → s.retrieval ≡ Some q → call.reply ≡ (step s call.event).0
      → (call ≡ expected) × ((step s call.event).1.retrieval ≡ None)

-- a retrieval gave at most this many packets, of which the link took these and did not take those, and was ended by a
-- last call, the expected one
pub record Retrieves (store : OrderStore) (wanted : ℕ) (expected : Entry) (sent unsent : List Stored)
    (a b : Progress) : Type 0 where
  pub most : length (sent ++ unsent) ≤ wanted
  pub last_call : Entry
  pub ends : Ends last_call expected
  pub advance : Advances store (given a.port.number (sent ++ unsent) ++ last_call ∷ []) sent unsent a b

-- a retrieval was aborted for this cause
pub record BreaksOff (store : OrderStore) (wanted : ℕ) (why : OrderBroken) (a b : Progress) : Type 0 where
  pub sent : List Stored
  pub unsent : List Stored
  pub last : length unsent ≡ unsent_at why
  pub retrieval : Retrieves store wanted (aborted a.port.number) sent unsent a b

-- the time of the packet given last
abbrev pub last_of : List Stored → Option ℕ
last_of [] = None
last_of (stored ∷ gave) = Some (last_time stored.time gave)

-- a retrieval sent all that it gave, the last packet with this time
pub record SentAll (store : OrderStore) (wanted : ℕ) (last : Option ℕ) (a b : Progress) : Type 0 where
  pub sent : List Stored
  pub last_is : last ≡ last_of sent
  pub retrieval : Retrieves store wanted (ended a.port.number wanted sent) sent [] a b

-- these calls are the course of an order, if they are all that happened to its store, at which no retrieval was on
pub record IsTried (c : Course) : Type 0 where
  pub alone : (s t : State) → s.retrieval ≡ None → IsRun s c.calls t → IsCourse c

-- the course of an order that this seat carried out
abbrev pub course_of : Order → Option OrderBroken → List Stored → List Stored → ℕ → List Entry → Course
course_of order why sent unsent seat calls =
    record { order = order; seat = seat; calls = calls; sent = sent; unsent = unsent; why = why }

-- an order was carried out, and broke for this cause, if there is one; where it did not break no send failed
pub record OrderCarriedOut (ids : List (List ℕ)) (order : Order) (why : Option OrderBroken)
    (a b : Progress) : Type 0 where
  pub sent : List Stored
  pub unsent : List Stored
  pub calls : List Entry
  pub advance : Advances (order_store order.place (id_at ids order.place)) calls sent unsent a b
  pub tried : IsTried (course_of order why sent unsent a.port.number calls)
  pub well : IfNone why (b.failed ≡ a.failed)
