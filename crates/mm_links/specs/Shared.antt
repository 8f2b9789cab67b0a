-- What a plan sends of each channel, shared out among links.
use Rattle.std.specs.Prelude.{◌≡◌, ℕ, ◌+◌, ◌*◌, ◌<◌, ◌≤◌, List, [], length, sum_by, slice_index, slice_index_or}
use Rattle.std.specs.List.{range_with_len}
use Rattle.mm_base.specs.declared.limits.TheConstants.{CHANNELS}
use Rattle.mm_links.specs.declared.link.Link.{Link}
use Rattle.mm_links.specs.declared.link.Rooms.{Rooms}
use Rattle.mm_links.specs.Rooms.{channels, limit_at, AreRooms}

-- what is sent of a channel, by a list of amounts
abbrev pub amount : List ℕ → ℕ → ℕ
amount x c = slice_index x c

-- what is sent of each channel keeps its limit, and all of it the window
pub record Keeps (rooms : Rooms) (x : List ℕ) : Type 0 where
  pub limits : (c : ℕ) → c < CHANNELS → amount x c ≤ slice_index rooms.limits c
  pub window : sum_by (amount x) channels ≤ rooms.window

-- it keeps the rooms of these links
abbrev pub KeepsRooms : List Link → List ℕ → Type 0
KeepsRooms links x = (rooms : Rooms) × (AreRooms links rooms × Keeps rooms x)

-- the numbers of the links
abbrev pub numbers : List Link → List ℕ
numbers links = range_with_len 0 (length links)

-- what stands past the last link
abbrev pub no_link : Link
no_link = record { window = 0; limits = [] }

-- the link with a number
abbrev pub link : List Link → ℕ → Link
link links l = slice_index_or links l no_link

-- what a link sends of a channel, by a list with the channels of the first link, then those of the next
abbrev pub share : List ℕ → ℕ → ℕ → ℕ
share y l c = slice_index y (l * CHANNELS + c)

-- each link sends at most its limit of a channel and at most its window in all, and the links together send the amounts
pub record IsShared (links : List Link) (x y : List ℕ) : Type 0 where
  pub size : length y ≡ length links * CHANNELS
  pub limits : (l c : ℕ) → l < length links → c < CHANNELS → share y l c ≤ limit_at (link links l) c
  pub windows : (l : ℕ) → l < length links → sum_by (share y l) channels ≤ (link links l).window
  pub all : (c : ℕ) → c < CHANNELS → sum_by (λ l. share y l c) (numbers links) ≡ amount x c
