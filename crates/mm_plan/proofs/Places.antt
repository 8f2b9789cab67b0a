-- The places of a table that is kept as one list.
use Rattle.std.proofs.Common.{◌≡◌, ℕ, ◌-◌, ◌*◌, ◌<◌, ◌≤◌, arith}
use Rattle.std.proofs.Math.Nat.{mul_comm}
use Rattle.std.proofs.lemmas.Nat.{same_from_place, mul-add-lt}
use Rattle.mm_base.specs.Grid.{grid_place}

-- each place is in the list
pub grid_place-lt : (n m t s : ℕ) → s < n → 1 ≤ t → t ≤ m → grid_place n t s < m * n
grid_place-lt n m t s store first last = omega (arith, mul_comm n m, mul-add-lt (t - 1) n s m (omega arith) store)

-- each place is that of one store in one step
pub same_from_grid_place : (n t s u r : ℕ) → s < n → r < n → 1 ≤ t → 1 ≤ u → grid_place n t s ≡ grid_place n u r → (t ≡ u) × (s ≡ r)
same_from_grid_place n t s u r store other first from same =
    let place = same_from_place (t - 1) s (u - 1) r n store other same in
    (omega (arith, place.0), place.1)
