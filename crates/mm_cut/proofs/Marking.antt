-- Marks of steps.
use Rattle.std.proofs.Common.{◌≡◌, ℕ, false, get_or, inl, inr, arith}
use Rattle.std.proofs.Math.ListN.{replicate}
use Rattle.std.proofs.lemmas.Bool.{cases_lt}
use Rattle.std.proofs.lemmas.List.{get_or-replicate, get_or_past, length-replicate}

-- nothing is marked at first
pub unmarked : (n t : ℕ) → get_or (replicate n false) t false ≡ false
unmarked n t = elim (cases_lt t n) [
  | inl below ↦ get_or-replicate n t false false below
  | inr past ↦ get_or_past (replicate n false) t false (omega (arith, length-replicate n false))
]
