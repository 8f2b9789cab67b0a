-- The workers of a step: as they are before they work and after it, with the queue of the orders' numbers, and what
-- each of them does. No public clause cites this module.
use Rattle.std.specs.Prelude.{◌≡◌, ℕ, ◌+◌, ◌-◌, ◌<◌, ◌≤◌, ◌^◌, Bool, nat_lt, List, [], ◌++◌, length, map, filter}
use Rattle.std.specs.Prelude.{flat_map, slice_index_or, sum_by, All, Vec, vec_capacity, Option, Some, None}
use Rattle.crossbeam_queue.specs.declared.array_queue.Doing.{Doing}
use Rattle.crossbeam_queue.specs.declared.array_queue.Slotted.{Slotted}
use Rattle.crossbeam_queue.specs.Passes.{Pass, view, IsPassOf, ruled_capacity}
use Rattle.mm_base.specs.declared.limits.TheConstants.{MAX_STORES}
use Rattle.mm_desk.specs.declared.desk.TheConstants.{MAX_SEATS}
use Rattle.mm_desk.specs.declared.entry.Entry.{Entry}
use Rattle.mm_shared.specs.declared.label.StoreLabel.{StoreLabel}
use Rattle.mm_shared.specs.Views.{PortView, StoresView}
use Rattle.mm_dump.specs.declared.dumper.DumpWorker.{DumpWorker}
use Rattle.mm_dump.specs.declared.order.Order.{Order}
use Rattle.mm_dump.specs.declared.order.OrderBroken.{OrderBroken}
use Rattle.mm_dump.specs.declared.queue.QueueView.{QueueView}
use Rattle.mm_dump.specs.Courses.{Course, AreCourses, sent_by, failed_by, spent_by}
use Rattle.mm_dump.specs.OrderSteps.{Progress, progress, IsTried}
use Rattle.mm_dump.specs.Queue.{queue_view}
use Rattle.mm_dump.specs.Sending.{Sent}

-- a pass of the queue has all parts
pub record HasAllParts {Q A : Type 0} (queue : Slotted (Option ℕ) (Doing ℕ QueueView) Q A)
    (pass : Pass ℕ QueueView) : Type 0 where
  pub of : IsPassOf queue pass
  pub all : (view pass).parts ≡ 1024

-- numbers can be pushed and workers hired: the queue has room for the number of each of these orders and for one more
-- for each of these workers, there is room for the workers, and no worker is hired yet
pub record MayHire {Q A B : Type 0} (queue : Slotted (Option ℕ) (Doing ℕ QueueView) Q A) (pass : Pass ℕ QueueView)
    (workers : Vec DumpWorker B) (orders count : ℕ) : Type 0 where
  pub whole : HasAllParts queue pass
  pub some : 1 ≤ count
  pub most : count ≤ MAX_SEATS
  pub few : orders ≤ MAX_STORES
  pub numbers : orders + count ≤ ruled_capacity queue
  pub none : workers.items ≡ []
  pub room : count ≤ vec_capacity workers

-- a worker that has taken no number and spent nothing: its pass of the queue has one part, and knows that no more than
-- 65536 numbers were pushed
pub record IsHired {Q A : Type 0} (queue : Slotted (Option ℕ) (Doing ℕ QueueView) Q A) (w : DumpWorker) : Type 0 where
  pub pass : IsPassOf queue w.pass
  pub first : view w.pass ≡ queue_view 1 (view w.pass).pushed []
  pub few : (view w.pass).pushed ≤ 65536
  pub spent : w.spent ≡ 0

-- this many workers are hired, and the pass with the other parts has taken no number
pub record AreHired {Q A : Type 0} (queue : Slotted (Option ℕ) (Doing ℕ QueueView) Q A) (count : ℕ)
    (pass : Pass ℕ QueueView) (workers : List DumpWorker) : Type 0 where
  pub many : length workers ≡ count
  pub of : IsPassOf queue pass
  pub parts : (view pass).parts + count ≡ 1024
  pub none : (view pass).taken ≡ []
  pub hired : All (IsHired queue) workers

-- a worker after its work: its pass has one part, and it has spent no more blocks than the orders of a step can want
pub record IsBack {Q A : Type 0} (queue : Slotted (Option ℕ) (Doing ℕ QueueView) Q A) (w : DumpWorker) : Type 0 where
  pub pass : IsPassOf queue w.pass
  pub part : (view w.pass).parts ≡ 1
  pub bound : w.spent ≤ 2 ^ 48

-- the passes of workers were joined to a pass of the queue, with their parts and with the numbers that they took,
-- however numbers are weighed
pub record AreBack {Q A : Type 0} (queue : Slotted (Option ℕ) (Doing ℕ QueueView) Q A) (workers : List DumpWorker)
    (old new : Pass ℕ QueueView) : Type 0 where
  pub of : IsPassOf queue new
  pub parts : (view new).parts ≡ (view old).parts + length workers
  pub taken : (weight : ℕ → ℕ) → sum_by weight (view new).taken
      ≡ sum_by weight (view old).taken + sum_by (λ (w : DumpWorker). sum_by weight (view w.pass).taken) workers

-- the order of a number
abbrev pub order_at : List Order → ℕ → Order
order_at orders number = slice_index_or orders number (record { place = 0; amount = 0 })

-- each order names a store that is there, and each store has a label
pub record OrdersFit (stores : StoresView) (labels : List StoreLabel) (orders : List Order) : Type 0 where
  pub labels_are : length labels ≡ stores.many
  pub within : All (λ o. o.place < length labels) orders

-- the calls of orders, each with the place of its store
abbrev pub calls_of : List Course → List (ℕ × Entry)
calls_of courses = flat_map (λ c. map (λ e. (c.order.place, e)) c.calls) courses

-- a worker made the calls of these orders, its link took what they sent, one after another, and it spent their blocks
pub record AdvancesBy (ids : List (List ℕ)) (courses : List Course) (a b : Progress) : Type 0 where
  pub port : b.port ≡ record a.port { list = a.port.list ++ calls_of courses }
  pub all : b.sent ≡ a.sent ++ sent_by ids courses
  pub failures : b.failed ≡ a.failed + failed_by courses
  pub blocks : b.spent ≡ a.spent + spent_by courses

-- whether an order has a number
abbrev pub has_order : List Order → ℕ → Bool
has_order orders number = nat_lt number (length orders)

-- how many numbers that no order has a worker takes: one if none of its orders broke
abbrev pub past_of : Option OrderBroken → ℕ
past_of None = 1
past_of (Some why) = 0

-- a worker took these numbers and carried out their orders, of which the last broke for this cause, if there is one; no
-- order has this many of the numbers
pub record Worked (ids : List (List ℕ)) (orders : List Order) (taken : List ℕ) (past : ℕ) (why : Option OrderBroken)
    (a b : Progress) (courses : List Course) : Type 0 where
  pub of : map (λ c. c.order) courses ≡ map (order_at orders) (filter (has_order orders) taken)
  pub count : length taken ≡ length courses + past
  pub are : AreCourses IsTried why courses
  pub advance : AdvancesBy ids courses a b

-- a worker with its link and its port, before its work and after it, and the orders that it carried out
pub record Work (L : Type 0) : Type 0 where
  pub old_link : L
  pub new_link : L
  pub old_port : PortView
  pub new_port : PortView
  pub worker : DumpWorker
  pub courses : List Course

-- a port of these stores, through which no call was made
pub record IsNewPort (stores : StoresView) (port : PortView) : Type 0 where
  pub of : port.of.table ≡ stores.id
  pub fresh : port.list ≡ []

-- a worker carried out the orders of the numbers that its pass took
abbrev pub HasWorked : {L : Type 0} → (L → List Sent) → (L → ℕ) → List (List ℕ) → List Order → Work L → Type 0
HasWorked sent failed ids orders w =
    Worked ids orders (view w.worker.pass).taken (past_of w.worker.why) w.worker.why
    (progress sent failed w.old_port w.old_link 0) (progress sent failed w.new_port w.new_link w.worker.spent) w.courses

module _ {L Q A : Type 0} (sent : L → List Sent) (failed : L → ℕ)
    (queue : Slotted (Option ℕ) (Doing ℕ QueueView) Q A) where
  -- there are as many workers as links, one at least, each with a port through which no call was made, and each link
  -- may fail once more
  pub record AreReady (stores : StoresView) (labels : List StoreLabel) (orders : List Order) (links : List L)
      (ports : List PortView) (workers : List DumpWorker) : Type 0 where
    pub some : 0 < length links
    pub ports_count : length ports ≡ length links
    pub workers_count : length workers ≡ length links
    pub fit : OrdersFit stores labels orders
    pub new_ports : All (IsNewPort stores) ports
    pub hired : All (IsHired queue) workers
    pub room : All (λ l. failed l < 2 ^ 64 - 1) links

  -- each worker has worked, with the link and the port at its place in these lists
  pub record AllWorked (ids : List (List ℕ)) (orders : List Order) (old_links new_links : List L)
      (old_ports new_ports : List PortView) (workers : List DumpWorker) : Type 0 where
    pub works : List (Work L)
    pub each : All (HasWorked sent failed ids orders) works
    pub back : All (λ w. IsBack queue w.worker) works
    pub old_links_are : map (λ w. w.old_link) works ≡ old_links
    pub new_links_are : map (λ w. w.new_link) works ≡ new_links
    pub old_ports_are : map (λ w. w.old_port) works ≡ old_ports
    pub new_ports_are : map (λ w. w.new_port) works ≡ new_ports
    pub workers_are : map (λ w. w.worker) works ≡ workers

-- why the last order of each worker broke
abbrev pub causes_of : List DumpWorker → List (Option OrderBroken)
causes_of workers = map (λ w. w.why) workers
