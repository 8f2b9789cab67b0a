-- What links that send at once can send together. Links and channels count from 0.
use Rattle.std.specs.Prelude.{◌≡◌, ℕ, ◌<◌, ◌≤◌, min, Bool, false, List, filter, sum_by, None, unwrap_or}
use Rattle.std.specs.Prelude.{slice_index, slice_index_or}
use Rattle.std.specs.List.{range_with_len}
use Rattle.mm_base.specs.declared.limits.TheConstants.{CHANNELS}
use Rattle.mm_links.specs.declared.link.Link.{Link}
use Rattle.mm_links.specs.declared.link.Rooms.{Rooms}

-- the numbers of the channels
abbrev pub channels : List ℕ
channels = range_with_len 0 CHANNELS

-- a set of channels
abbrev pub Set : Type 0
Set = ℕ → Bool

-- the set that a table of channels shows
abbrev pub is_in : List Bool → Set
is_in table c = slice_index_or table c false

-- ---- one link

-- what it can send in all
abbrev pub window_at : Link → ℕ
window_at l = l.window

-- what it can send of a channel: at most its window, and its window where the channel has no limit
abbrev pub limit_at : Link → ℕ → ℕ
limit_at l c = min (unwrap_or (slice_index_or l.limits c None) l.window) l.window

-- what it can send of a set of channels: what their limits come to, and at most its window
abbrev pub room_at : Set → Link → ℕ
room_at set l = min l.window (sum_by (limit_at l) (filter set channels))

-- ---- all links

-- what they can send of a channel
abbrev pub limit_of : List Link → ℕ → ℕ
limit_of links c = sum_by (λ l. limit_at l c) links

-- what their limits come to for a set of channels
abbrev pub limits_of : List Link → Set → ℕ
limits_of links set = sum_by (limit_of links) (filter set channels)

-- what they can send of a set of channels
abbrev pub room_of : List Link → Set → ℕ
room_of links set = sum_by (room_at set) links

-- of a set of channels the links can send what a window and the limits let through
abbrev pub IsOpen : List Link → ℕ → Set → Type 0
IsOpen links window set = min window (limits_of links set) ≤ room_of links set

-- the widest window that is at most the sum of the links' windows, and of which this holds for each set of channels
pub record IsWindow (links : List Link) (window : ℕ) : Type 0 where
  pub most : window ≤ sum_by window_at links
  pub each : (set : Set) → IsOpen links window set
  pub widest : (other : ℕ) → other ≤ sum_by window_at links → ((set : Set) → IsOpen links other set) → other ≤ window

-- the window and the limits of all links together
pub record AreRooms (links : List Link) (rooms : Rooms) : Type 0 where
  pub window : IsWindow links rooms.window
  pub limits : (c : ℕ) → c < CHANNELS → slice_index rooms.limits c ≡ limit_of links c
