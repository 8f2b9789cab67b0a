-- How the widest window is found, set by set.
use Rattle.std.specs.Prelude.{◌≡◌, ℕ, ◌<◌, ◌≤◌, Bool, List}
use Rattle.mm_links.specs.declared.link.Link.{Link}
use Rattle.mm_links.specs.Rooms.{Set, is_in, IsOpen}

-- of the channels below a number, a set has those that a table shows
abbrev pub Agrees : List Bool → ℕ → Set → Type 0
Agrees table n set = (c : ℕ) → c < n → set c ≡ is_in table c

-- all sets that agree with a table below a number are open to a window
abbrev pub AreOpen : List Link → List Bool → ℕ → ℕ → Type 0
AreOpen links table n window = (set : Set) → Agrees table n set → IsOpen links window set

-- the widest such window of at most this much
pub record IsNarrowed (links : List Link) (table : List Bool) (n most window : ℕ) : Type 0 where
  pub within : window ≤ most
  pub each : AreOpen links table n window
  pub widest : (other : ℕ) → other ≤ most → AreOpen links table n other → other ≤ window
