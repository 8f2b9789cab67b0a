-- Passes that one transmitter serves. Passes count from 0.
use Rattle.std.specs.Prelude.{ℕ, ◌<◌, ◌≤◌, List, length, slice_index_or, Option, Some, None, All, AllPairs}
use Rattle.std.specs.Prelude.{Contains}
use Rattle.mm_links.specs.declared.better.Offer.{Offer}
use Rattle.mm_links.specs.declared.better.Part.{Part}
use Rattle.mm_links.specs.declared.limits.TheConstants.{LAST}

-- what stands past the last pass
abbrev pub no_offer : Offer
no_offer = record { begin = 0; end = 0; worth = 0 }

-- the pass with a number
abbrev pub offer : List Offer → ℕ → Offer
offer offers i = slice_index_or offers i no_offer

-- a pass is there at a time
pub record IsThere (o : Offer) (time : ℕ) : Type 0 where
  pub begun : o.begin ≤ time
  pub lasts : time < o.end

-- of the first n passes, this one is there at a time, and none that is there is worth more
pub record IsBest (offers : List Offer) (n time i : ℕ) : Type 0 where
  pub known : i < n
  pub there : IsThere (offer offers i) time
  pub most : (k : ℕ) → k < n → IsThere (offer offers k) time → (offer offers k).worth ≤ (offer offers i).worth

-- at each moment of a part, which has some, its pass is there, and no pass that is there is worth more
pub record IsPart (offers : List Offer) (p : Part) : Type 0 where
  pub some : p.begin < p.end
  pub best : (time : ℕ) → p.begin ≤ time → time < p.end → IsBest offers (length offers) time p.pass

-- a part ends before another begins
abbrev pub EndsBefore : Part → Part → Type 0
EndsBefore p q = p.end ≤ q.begin

-- one of the parts lasts at a time
abbrev pub IsServed : List Part → ℕ → Type 0
IsServed parts time = (p : Part) × (Contains parts p × (p.begin ≤ time) × (time < p.end))

-- parts of passes that follow one another, one at each moment at which some pass is there, before the last of times
pub record AreUsed (offers : List Offer) (parts : List Part) : Type 0 where
  pub each : All (IsPart offers) parts
  pub apart : AllPairs EndsBefore parts
  pub all : (i time : ℕ) → i < length offers → time < LAST → IsThere (offer offers i) time → IsServed parts time

-- ---- on the way

-- of the first n passes, the chosen one is best, or none is there
abbrev pub IsChosen : List Offer → ℕ → ℕ → Option ℕ → Type 0
IsChosen offers n time (Some i) = IsBest offers n time i
IsChosen offers n time None = (k : ℕ) → k < n → IsThere (offer offers k) time → ⊥

-- a pass neither begins nor ends between two times
pub record IsQuiet (time next : ℕ) (o : Offer) : Type 0 where
  pub begin : time < o.begin → next ≤ o.begin
  pub end : time < o.end → next ≤ o.end

-- none of the first n does
abbrev pub AreQuiet : List Offer → ℕ → ℕ → ℕ → Type 0
AreQuiet offers n time next = (k : ℕ) → k < n → IsQuiet time next (offer offers k)

-- parts that serve passes until a time
pub record AreUsedUntil (offers : List Offer) (time : ℕ) (parts : List Part) : Type 0 where
  pub each : All (IsPart offers) parts
  pub apart : AllPairs EndsBefore parts
  pub before : All (λ p. p.end ≤ time) parts
  pub all : (i moment : ℕ) → i < length offers → moment < time → IsThere (offer offers i) moment → IsServed parts moment
