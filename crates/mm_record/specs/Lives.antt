-- Live sources: nobody knows before what they will give.
use Rattle.std.specs.Prelude.{◌≡◌, ℕ, ◌<◌, ◌≤◌, [], ◌++◌, length, drop, refl}
use Rattle.std.proofs.Common.{sym}
use Rattle.std.proofs.lemmas.List.{append-nil}
use Rattle.std.proofs.Math.Nat.{le_refl}
use Rattle.mm_record.specs.Supplies.{Supply}
use Rattle.mm_record.specs.declared.live.Live.{Live}

-- a live source, with the first step that is not over
abbrev pub live : {L : Type 0} → L → ℕ → Live L
live source from = record { source = source; from = from }

-- what comes in each step after the first of two moments, up to the second, where this is what was given until then
abbrev pub rest : Supply → Supply → Supply
rest before after t = drop (length (before t)) (after t)

-- what was given until a later moment, when more steps are over: more was given, but nothing in a step that was over
pub record Follows (before : Supply) (from : ℕ) (after : Supply) (later : ℕ) : Type 0 where
  pub more : Supply
  pub grew : (t : ℕ) → after t ≡ before t ++ more t
  pub later_is : from ≤ later
  pub over : (t : ℕ) → t < from → after t ≡ before t

-- nothing more was given
pub follows_same : (given : Supply) (from : ℕ) → Follows given from given from
follows_same given from =
    record { more = λ t. []; grew = λ t. sym (append-nil (given t)); later_is = le_refl from; over = λ t before. refl }
