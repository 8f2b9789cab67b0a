-- The store machine: what a store with its storage switch, its retrieval and its counters answers to each event, and the
-- state that it leaves. What it holds is changed by the definitions of packet stores.
use Rattle.std.specs.Prelude.{◌≡◌, ℕ, ◌+◌, ◌<◌, ◌^◌, Bool, true, false, not, ◌||◌, ◌==◌, nat_lt, if◌then◌else◌, length, Option, Some, None, is_some, Result, Ok, Err}
use Rattle.mm_desk.specs.Types.{SpacePacket, Stored, Put, Event, Offer, Begin, Next, Abort, Delete, Enable, Disable, Fault, Disabled, Busy, Idle, BadRange}
use Rattle.mm_desk.specs.Types.{ClockEnd, Offered, Kept, KeptOver, Lost, Returned, Reply, Retrieval}
use Rattle.mm_store.specs.declared.put.Put.TheVariants as put
use Rattle.mm_store.specs.Content.{Store, IsStore, clock_end, put, first_in, count_up_to, delete_up_to}
use Rattle.mm_store.specs.Laws.{handed_back}
use Rattle.mm_desk.specs.declared.reply.Reply.TheVariants as reply

-- a store, whether storage is on, the retrieval that is on, and how many packets were offered, lost and deleted
pub record State : Type 0 where
  pub store : Store
  pub storage : Bool
  pub retrieval : Option Retrieval
  pub offered : ℕ
  pub lost : ℕ
  pub deleted : ℕ

-- what was offered is lost, deleted or held
abbrev pub Balances : State → Type 0
Balances s = s.offered ≡ s.lost + s.deleted + length s.store.content

-- what always holds of a state
pub record IsState (s : State) : Type 0 where
  pub store : IsStore s.store
  pub balance : Balances s
  pub offered_fits : s.offered < 2 ^ 64

-- a store at rest, with all that it holds as offered
abbrev pub opening : Store → State
opening store = record { store = store; storage = false; retrieval = None; offered = length store.content; lost = 0; deleted = 0 }

-- the answer to an offer, by what the store did with the packet
abbrev pub answer_of : Put → Result Offered Returned
answer_of (put.Kept time) = Ok (Kept time)
answer_of (put.KeptOver time oldest) = Ok (KeptOver time oldest)
answer_of (put.Lost packet) = Ok (Lost packet)
answer_of (put.ClockEnd packet) = Err (record { fault = ClockEnd; packet = packet })

-- the state after a packet was put
abbrev pub after_put : State → Put × Store → State
after_put s done = record s { store = done.1; offered = s.offered + 1; lost = s.lost + handed_back done.0 }

-- a packet is offered at `now`
abbrev pub offer : State → ℕ → SpacePacket → Result Offered Returned × State
offer s now packet =
    if not s.storage then (Err (record { fault = Disabled; packet = packet }), s)
    else if (s.store.last == clock_end) || (s.offered == clock_end) then (Err (record { fault = ClockEnd; packet = packet }), s)
    else (answer_of (put s.store now packet).0, after_put s (put s.store now packet))

-- a retrieval begins, from its first to its last time
abbrev pub begin : State → ℕ → ℕ → Result (Unit {0}) Fault × State
begin s from to =
    if is_some s.retrieval then (Err Busy, s)
    else if nat_lt to from then (Err BadRange, s)
    else (Ok tt, record s { retrieval = Some (record { from = from; to = to; after = 0 }) })

-- what a retrieval gives: the packet found, or the end, at which it is over
abbrev pub give : State → Retrieval → Option Stored → Result (Option Stored) Fault × State
give s r (Some p) = (Ok (Some p), record s { retrieval = Some (record r { after = p.time }) })
give s r None = (Ok None, record s { retrieval = None })

-- the next packet of the retrieval: the oldest in its range that is newer than the last one given
abbrev pub next_of : State → Option Retrieval → Result (Option Stored) Fault × State
next_of s (Some r) = give s r (first_in r.from r.to r.after s.store.content)
next_of s None = (Err Idle, s)

abbrev pub next : State → Result (Option Stored) Fault × State
next s = next_of s s.retrieval

-- the retrieval is ended
abbrev pub abort : State → Result (Unit {0}) Fault × State
abort s = if is_some s.retrieval then (Ok tt, record s { retrieval = None }) else (Err Idle, s)

-- the packets up to a time are deleted
abbrev pub delete : State → ℕ → Result ℕ Fault × State
delete s limit =
    if is_some s.retrieval then (Err Busy, s)
    else (Ok (count_up_to limit s.store.content), record s { store = delete_up_to s.store limit; deleted = s.deleted + count_up_to limit s.store.content })

-- an answer as a reply
abbrev pub told : {A : Type 0} → (A → Reply) → A × State → Reply × State
told reply answered = (reply answered.0, answered.1)

-- what the machine answers to an event, and the state that it leaves
abbrev pub step : State → Event → Reply × State
step s (Offer now packet) = told reply.Offered (offer s now packet)
step s (Begin from to) = told reply.Done (begin s from to)
step s Next = told reply.Given (next s)
step s Abort = told reply.Done (abort s)
step s (Delete limit) = told reply.Deleted (delete s limit)
step s Enable = (reply.Done (Ok tt), record s { storage = true })
step s Disable = (reply.Done (Ok tt), record s { storage = false })
