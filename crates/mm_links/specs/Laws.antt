-- Why a window is that of each set of channels, in words of what is shared.
use Rattle.std.specs.Prelude.{ℕ, ◌≤◌, List, filter, sum_by}
use Rattle.mm_links.specs.declared.link.Link.{Link}
use Rattle.mm_links.specs.declared.link.Rooms.{Rooms}
use Rattle.mm_links.specs.Rooms.{Set, channels, window_at, room_of, AreRooms}
use Rattle.mm_links.specs.Shared.{amount, Keeps, IsShared}

-- of no set of channels is more shared out than the links can send of it
abbrev pub SharesHaveRoom : Type 0
SharesHaveRoom = (links : List Link) (x y : List ℕ) (set : Set) → IsShared links x y
    → sum_by (amount x) (filter set channels) ≤ room_of links set

-- the rooms with another window
abbrev pub with_window : Rooms → ℕ → Rooms
with_window rooms window = record { window = window; limits = rooms.limits }

-- all amounts that keep rooms can be shared out
abbrev pub CanBeShared : List Link → Rooms → Type 0
CanBeShared links rooms = (x : List ℕ) → Keeps rooms x → (y : List ℕ) × IsShared links x y

-- a window that is at most the sum of the links' windows, and with which all that keeps it can be shared out, is no
-- wider
abbrev pub WindowIsWidest : Type 0
WindowIsWidest = (links : List Link) (rooms : Rooms) (window : ℕ) → AreRooms links rooms
    → window ≤ sum_by window_at links → CanBeShared links (with_window rooms window) → window ≤ rooms.window
