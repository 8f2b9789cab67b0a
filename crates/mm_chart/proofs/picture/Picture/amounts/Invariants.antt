use Rattle.std.proofs.Common.{◌≡◌, ℕ, ◌*◌, ◌^◌, ◌<◌, ◌≤◌, length, get_or}
use Rattle.mm_base.specs.declared.limits.TheConstants.{MAX_STORES}
use Rattle.mm_chart.specs.declared.series.TheConstants.{AMOUNT_PLACES}
use Rattle.mm_chart.specs.Series.{amount_at}
use Rattle.mm_chart.proofs.picture.Picture.amounts.Given as goal

-- of the steps so far
abbrev pub invariant-loop-step : goal.invariant-loop-step
invariant-loop-step l = record {
  places : length l.amounts ≡ AMOUNT_PLACES;
  before : (t : ℕ) → t < l.step → get_or l.amounts t 0 ≡ amount_at l.self l.series t;
  after : (t : ℕ) → l.step ≤ t → get_or l.amounts t 0 ≡ 0;
  most : (t : ℕ) → get_or l.amounts t 0 ≤ MAX_STORES * 2 ^ 32;
}
