-- The places of the problem's stores in the memory.
use Rattle.std.specs.Prelude.{◌≡◌, ◌≢◌, ℕ, ◌<◌, ◌≤◌, List, length, slice_index, All}
use Rattle.std.specs.List.{position_or_len}
use Rattle.mm_carry.specs.Words.{MAX_STORES, Dumping, IsDumping, row, Held, has_id}

-- the store with this identifier stands at this place
pub record IsPlaceOf (id : List ℕ) (stores : List Held) (place : ℕ) : Type 0 where
  pub is : place ≡ position_or_len (has_id id) stores
  pub within : place < length stores

-- the first stores of the problem stand at these places
abbrev pub ArePlaces : Dumping → List Held → ℕ → List ℕ → Type 0
ArePlaces q stores n places = (s : ℕ) → s < n → IsPlaceOf (row q s).id stores (slice_index places s)

-- these are the places of all stores of a problem, among these stores
pub record AreAllPlaces (q : Dumping) (stores : List Held) (places : List ℕ) : Type 0 where
  pub sound : IsDumping q
  pub stand : ArePlaces q stores (length q.rows) places
  pub count : length places ≡ MAX_STORES

-- a place for each of this many stores, each of a store that is there
pub record StandWithin (many : ℕ) (stores : List Held) (places : List ℕ) : Type 0 where
  pub all : length places ≡ many
  pub few : length places ≤ MAX_STORES
  pub within : All (λ place. place < length stores) places

-- the stores stand at places of their own
abbrev pub AreApart : List ℕ → ℕ → Type 0
AreApart places n = (r s : ℕ) → r < n → s < n → r ≢ s → slice_index places r ≢ slice_index places s
