-- Lines that are taken one by one.
use Rattle.std.proofs.Common.{ℕ, List}
use Rattle.mm_ask.specs.Lines.{PassesEach}

-- what the lines leave from here on is what all lines leave from the first on
abbrev pub LeadsOn : {S : Type 0} → (ℕ → List ℕ → S → S → Type 0) → ℕ → List (List ℕ) → S → List (List ℕ) → S → Type 0
LeadsOn {S} Leaves line rest s lines begun = (t : S) → PassesEach Leaves line rest s t → PassesEach Leaves 1 lines begun t
