-- A dump order that broke: which calls it made, and why.
use Rattle.std.specs.Prelude.{◌≡◌, ℕ, ◌≤◌, List, [], ◌∷◌, ◌++◌, length, Ok}
use Rattle.mm_base.specs.declared.refusal.Refusal.{Refusal}
use Rattle.mm_base.specs.declared.refusal.Refusal.TheVariants as refusal
use Rattle.mm_store.specs.declared.stored.Stored.{Stored}
use Rattle.mm_desk.specs.declared.entry.Entry.{Entry}
use Rattle.mm_desk.specs.declared.event.Event.TheVariants.{Abort}
use Rattle.mm_desk.specs.declared.reply.Reply.TheVariants as reply
use Rattle.mm_desk.specs.Orders.{begun, given}
use Rattle.mm_desk.specs.Runs.{entry}
use Rattle.mm_dump.specs.declared.order.OrderBroken.{OrderBroken}
use Rattle.mm_dump.specs.declared.order.OrderBroken.TheVariants as broken

-- which refusal of a run it is
abbrev pub refusal_of : OrderBroken → Refusal
refusal_of broken.NoMemory = refusal.NoMemoryInStep
refusal_of broken.LinkFailed = refusal.LinkFailed

-- how many of the packets given were not sent: the one that the link did not take
abbrev pub unsent_at : OrderBroken → ℕ
unsent_at broken.NoMemory = 0
unsent_at broken.LinkFailed = 1

-- the retrieval is ended before its end
abbrev pub aborted : ℕ → Entry
aborted seat = entry seat Abort (reply.Done (Ok tt))

-- these calls are an order of at most this many packets, through this seat, which was given these and was then aborted,
-- with nothing deleted
pub record IsBrokenOrder (seat wanted : ℕ) (gave : List Stored) (calls : List Entry) : Type 0 where
  pub most : length gave ≤ wanted
  pub are : calls ≡ begun seat ∷ given seat gave ++ aborted seat ∷ []
