-- A dump order at a desk: the calls that carry it out, and what it dumps.
use Rattle.std.specs.Prelude.{◌≡◌, ℕ, ◌+◌, ◌≤◌, min, nat_lt, if◌then◌else◌, List, [], ◌∷◌, ◌++◌, length, map, Some, None, Ok}
use Rattle.mm_desk.specs.Types.{Stored, Entry, Begin, Next, Abort, Delete}
use Rattle.mm_store.specs.Content.{clock_end}
use Rattle.mm_desk.specs.declared.reply.Reply.TheVariants as reply
use Rattle.mm_desk.specs.Machine.{State}
use Rattle.mm_desk.specs.Runs.{entry}

-- a retrieval of all packets is begun
abbrev pub begun : ℕ → Entry
begun seat = entry seat (Begin 1 clock_end) (reply.Done (Ok tt))

-- each of these packets is given
abbrev pub given : ℕ → List Stored → List Entry
given seat gave = map (λ stored. entry seat Next (reply.Given (Ok (Some stored)))) gave

-- the retrieval is ended: by its end where fewer packets were given than were wanted, else by an abort
abbrev pub ended : ℕ → ℕ → List Stored → Entry
ended seat wanted gave =
    if nat_lt (length gave) wanted then entry seat Next (reply.Given (Ok None))
    else entry seat Abort (reply.Done (Ok tt))

-- the time of the packet given last, or this one where none was given
abbrev pub last_time : ℕ → List Stored → ℕ
last_time time [] = time
last_time time (stored ∷ gave) = last_time stored.time gave

-- the packets up to the one given last are deleted, where one was given
abbrev pub removed : ℕ → List Stored → ℕ → List Entry
removed seat [] count = []
removed seat (stored ∷ gave) count = entry seat (Delete (last_time stored.time gave)) (reply.Deleted (Ok count)) ∷ []

-- these calls are a whole order of at most this many packets, through this seat, which was given these
pub record IsOrderOf (seat wanted : ℕ) (gave : List Stored) (calls : List Entry) : Type 0 where
  pub most : length gave ≤ wanted
  pub count : ℕ
  pub are : calls ≡ begun seat ∷ given seat gave ++ ended seat wanted gave ∷ removed seat gave count

-- the oldest packets, as many as were wanted or all, were given and are deleted; the rest of the state is as before
pub record Dumps (s t : State) (wanted : ℕ) (gave : List Stored) : Type 0 where
  pub many : length gave ≡ min wanted (length s.store.content)
  pub oldest : s.store.content ≡ gave ++ t.store.content
  pub others : t ≡ record s { store = record s.store { content = t.store.content }; deleted = s.deleted + length gave }
