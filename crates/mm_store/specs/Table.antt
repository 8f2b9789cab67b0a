-- How a `BlockTable` lays out its blocks. No public clause cites this module.
use Rattle.std.specs.Prelude.{◌≡◌, ℕ, ◌+◌, ◌<◌, ◌≤◌, ◌==◌, ◌↔◌, List, length, count_by, filter_map, slice_index_or, Option, None, IsSome}
use Rattle.mm_store.specs.declared.stored.Stored.{Stored}

-- what the block with this number holds
abbrev pub slot : List (Option Stored) → ℕ → Option Stored
slot blocks number = slice_index_or blocks number None

-- how often a number stands in a list
abbrev pub times_in : List ℕ → ℕ → ℕ
times_in numbers number = count_by (λ n. n == number) numbers

-- the packets of these blocks, read along the queue
abbrev pub packets_along : List ℕ → List (Option Stored) → List Stored
packets_along queue blocks = filter_map (slot blocks) queue

-- each number of a block stands exactly once, in the queue or in the free list, and no other number
-- does; a block holds a packet exactly where its number is queued
pub record IsTable (blocks : List (Option Stored)) (queue free : List ℕ) : Type 0 where
  pub once : (n : ℕ) → n < length blocks → times_in queue n + times_in free n ≡ 1
  pub no_other : (n : ℕ) → length blocks ≤ n → times_in queue n + times_in free n ≡ 0
  pub total : length queue + length free ≡ length blocks
  pub held : (n : ℕ) → IsSome (slot blocks n) ↔ (0 < times_in queue n)

-- it is a table, and both lists have room for all its numbers
pub record IsReserved (blocks : List (Option Stored)) (queue free : List ℕ) (queue_room free_room : ℕ) : Type 0 where
  pub table : IsTable blocks queue free
  pub queue_fits : length blocks ≤ queue_room
  pub free_fits : length blocks ≤ free_room
