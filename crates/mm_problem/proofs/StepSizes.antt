-- The size of a store in a step.
use Rattle.std.proofs.Common.{◌≡◌, ℕ, ◌<◌, ◌≤◌, nat_lt, [], length, inl, inr, refl, arith}
use Rattle.std.proofs.lemmas.Bool.{cases_Bool}
use Rattle.mm_base.specs.declared.limits.TheConstants.{MAX_BLOCKS}
use Rattle.mm_problem.specs.Dumping.{Dumping, no_row, setup_size, size_column, size, IsDumping}

-- it is at most the setup's
pub size_within : (q : Dumping) (s t : ℕ) → size q s t ≤ setup_size q s
unfolding size
size_within q s t = elim (cases_Bool (nat_lt (size_column q s) (length q.sized))) [
  | inl own ↦ rw own (omega arith)
  | inr none ↦ rw none (omega arith)
]

-- and at most that of any store
pub size_most : (q : Dumping) (s t : ℕ) → IsDumping q → s < length q.rows → size q s t ≤ MAX_BLOCKS
size_most q s t is store = let row = is.stores.each s no_row store in omega (arith, size_within q s t)

-- it is the setup's where no store has sizes by step
pub size_is_setup : (q : Dumping) (s t : ℕ) → q.sized ≡ [] → size q s t ≡ setup_size q s
unfolding size
size_is_setup q s t none = rw none refl
