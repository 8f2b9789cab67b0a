-- What the lines of a text leave, where each leaves one thing after another.
use Rattle.std.specs.Prelude.{◌≡◌, ℕ, ◌+◌, List, [], ◌∷◌}

module _ {S : Type 0} (Leaves : ℕ → List ℕ → S → S → Type 0) where
  -- what one line leaves; an empty one is passed over
  abbrev pub Passes : ℕ → List ℕ → S → S → Type 0
  Passes line [] s t = t ≡ s
  Passes line (c ∷ cs) s t = Leaves line (c ∷ cs) s t

  -- what lines leave; they are numbered from this number on
  abbrev pub PassesEach : ℕ → List (List ℕ) → S → S → Type 0
  PassesEach line [] s t = t ≡ s
  PassesEach line (octets ∷ more) s t = (next : S) × Passes line octets s next × PassesEach (line + 1) more next t
