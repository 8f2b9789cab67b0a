-- Octets at the head of a buffer.
use Rattle.std.specs.Prelude.{◌≡◌, ℕ, List, ◌++◌, length, drop}

-- the buffer with these octets at its head, and else as it was
abbrev pub over : List ℕ → List ℕ → List ℕ
over octets buffer = octets ++ drop (length octets) buffer

-- octets are written from a place on: where all before it was written at the head of a buffer, they stand after it
abbrev pub Writes : ℕ → List ℕ → List ℕ → List ℕ → Type 0
Writes at octets old new = (head buffer : List ℕ) → length head ≡ at → old ≡ over head buffer → new ≡ over (head ++ octets) buffer
