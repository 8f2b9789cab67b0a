-- Times of day.
use Rattle.std.proofs.Common.{ℕ, zero, suc, ◌-◌, ◌*◌, ◌^◌, ◌≤◌, ◌<◌, arith}

-- one to six digits of a second are less than a second
pub fraction_small : (count n : ℕ) → count ≤ 6 → n < 10 ^ count → n * 10 ^ (6 - count) < 1000000
fraction_small zero n few small = omega arith
fraction_small (suc zero) n few small = omega arith
fraction_small (suc (suc zero)) n few small = omega arith
fraction_small (suc (suc (suc zero))) n few small = omega arith
fraction_small (suc (suc (suc (suc zero)))) n few small = omega arith
fraction_small (suc (suc (suc (suc (suc zero))))) n few small = omega arith
fraction_small (suc (suc (suc (suc (suc (suc zero)))))) n few small = omega arith
fraction_small (suc (suc (suc (suc (suc (suc (suc _))))))) n few small = absurd (omega arith)
