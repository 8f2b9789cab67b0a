-- Packets that were sent in a step that a failed link halted, and that are sent again.
use Rattle.std.specs.Prelude.{◌≡◌, ℕ, ◌+◌, ◌<◌, List, [], ◌++◌, length, map, slice_index_or}
use Rattle.mm_store.specs.declared.stored.Stored.{Stored}
use Rattle.mm_desk.specs.Runs.{opening_at}
use Rattle.mm_shared.specs.Stores.{id_at, states_of}
use Rattle.mm_memory.specs.Holdings.{Holdings}
use Rattle.mm_memory.specs.Laws.{ids_of}
use Rattle.mm_dump.specs.Sending.{Sent, all_sent}
use Rattle.callers.specs.declared.ends.Downlink.{Downlink}

-- what was sent over a downlink
abbrev pub sent_over : Downlink → List Sent
sent_over link = map (λ x. record { store = x.0; stored = x.1 }) link.taken.items

-- one more send of a link failed. The last packets that it took are of one store, which still holds them as its oldest,
-- and after them the one that was not taken: the next dump of that store sends them again
pub record GoesOutAgain (before after : List Downlink) (memory : Holdings) : Type 0 where
  pub link : ℕ
  pub within : link < length before
  pub failures : slice_index_or (map (λ l. l.failed) after) link 0
      ≡ slice_index_or (map (λ l. l.failed) before) link 0 + 1
  pub store : ℕ
  pub earlier : List Sent
  pub again : List Stored
  pub list : slice_index_or (map sent_over after) link []
      ≡ earlier ++ all_sent (id_at (ids_of memory.stores) store) again
  pub unsent : List Stored
  pub one : length unsent ≡ 1
  pub newer : List Stored
  pub holds : (opening_at (states_of memory.stores) store).store.content ≡ (again ++ unsent) ++ newer
