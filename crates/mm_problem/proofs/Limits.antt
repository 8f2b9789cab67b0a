-- The limits of channels in a step.
use Rattle.std.proofs.Common.{◌≡◌, ℕ, ◌<◌, nat_lt, Some, length, inl, inr, refl, arith}
use Rattle.std.specs.Prelude.{is_some, IsSome}
use Rattle.std.proofs.lemmas.Bool.{cases_Bool, both_ways}
use Rattle.std.proofs.lemmas.Bool.Decides.{nat_tests}
use Rattle.mm_problem.specs.Dumping.{Dumping, limit}

-- a channel with a limit is one of the channels
pub limit_within : (q : Dumping) (c t : ℕ) → IsSome (limit q c t) → c < length q.limits
limit_within q c t some = elim (cases_Bool (nat_lt c (length q.limits))) [
  | inl there ↦ grind (arith, nat_tests)
  | inr none ↦ absurd (both_ways (is_some (limit q c t)) (rw none refl) some)
]

-- so is one with this limit
pub limit_is_within : (q : Dumping) (c t b : ℕ) → limit q c t ≡ Some b → c < length q.limits
limit_is_within q c t b is = limit_within q c t (rw is refl)
