-- Charts with the worths of windows, limits and sizes.
use Rattle.std.specs.Prelude.{◌≡◌, ◌<◌, ℕ, ◌-◌, ◌≤◌, ◌*◌, List, length, slice_index, slice_index_or, All, Some, None}
use Rattle.std.specs.Prelude.{IsSome}
use Rattle.mm_base.specs.declared.limits.TheConstants.{CHANNELS, MAX_BLOCKS, MAX_STEPS, MAX_STORES}
use Rattle.mm_problem.specs.Changed.{with_window, with_limit, with_column_limit}
use Rattle.mm_problem.specs.Dumping.{Dumping, setup_limit}
use Rattle.mm_problem.specs.Texts.{SaysProblem}
use Rattle.mm_plan.specs.Sheet.{SheetRows}
use Rattle.mm_cut.specs.Checking.{SaysSheet}
use Rattle.mm_cut.specs.Verdicts.{IsSheetVerdict}
use Rattle.mm_cut.specs.declared.verdict.Verdict.{Verdict}
use Rattle.mm_chart.specs.Charts.{chart}
use Rattle.mm_chart.specs.Picture.{WorthLists, picture_of}
use Rattle.mm_chart.specs.Series.{step_limit_worth}
use Rattle.mm_sensitivity.specs.declared.item.Item.TheVariants.{Size}
use Rattle.mm_sensitivity.specs.Items.{with_number}
use Rattle.mm_sensitivity.specs.Worth.{IsSaved}

-- for each step, how many blocks fewer the least plan loses if its window is the largest
pub record AreWindowWorths (q : Dumping) (worths : List ℕ) : Type 0 where
  pub steps : length worths ≡ length q.windows
  pub each : (t : ℕ) → 1 ≤ t → t ≤ length q.windows → IsSaved q (with_window q t MAX_BLOCKS)
      (slice_index_or worths (t - 1) 0)

-- the same for the limit of a channel in the setup, 0 if it has none
pub record IsLimitWorth (q : Dumping) (c n : ℕ) : Type 0 where
  pub limited : IsSome (setup_limit q c) → IsSaved q (with_limit q c MAX_BLOCKS) n
  pub other : setup_limit q c ≡ None → n ≡ 0

-- no number is greater than the most that a plan loses
abbrev pub AreLosses : List ℕ → Type 0
AreLosses ns = All (λ n. n ≤ 2 * MAX_BLOCKS * MAX_STEPS * MAX_STORES) ns

-- the same for each channel
abbrev pub AreLimitWorths : Dumping → List ℕ → Type 0
AreLimitWorths q worths = (c : ℕ) → c < length q.limits → IsLimitWorth q c (slice_index_or worths c 0)

-- the same for the limit of a channel in one step, which stands in the channel's column; 0 if there is no such column
pub record IsStepLimitWorth (q : Dumping) (c t n : ℕ) : Type 0 where
  pub column : (k : ℕ) → k < length q.limited → slice_index q.limited k ≡ c
      → IsSaved q (with_column_limit q k t MAX_BLOCKS) n
  pub other : ((k : ℕ) → k < length q.limited → ¬ (slice_index q.limited k ≡ c)) → n ≡ 0

-- the same for each channel, step by step
pub record AreStepLimitWorths (q : Dumping) (worths : List ℕ) : Type 0 where
  pub count : length worths ≡ CHANNELS * length q.windows
  pub each : (c t : ℕ) → c < CHANNELS → 1 ≤ t → t ≤ length q.windows
      → IsStepLimitWorth q c t (step_limit_worth worths c t)

-- the same for the size of each store
pub record AreSizeWorths (q : Dumping) (worths : List ℕ) : Type 0 where
  pub stores : length worths ≡ length q.rows
  pub each : (s : ℕ) → s < length q.rows → IsSaved q (with_number q (Size s) MAX_BLOCKS) (slice_index_or worths s 0)

-- the worths of the windows, limits and sizes of the problem
pub record AreWorthLists (q : Dumping) (worths : WorthLists) : Type 0 where
  pub windows : AreWindowWorths q worths.windows
  pub limits : AreLimitWorths q worths.limits
  pub step_limits : AreStepLimitWorths q worths.step_limits
  pub sizes : AreSizeWorths q worths.sizes

-- the chart of a setup, a forecast and a plan text, by the verdict on them, with the worth of each window, limit and
-- size
pub record ChartsWorth (setup forecast text octets : List ℕ) : Type 0 where
  pub problem : Dumping
  pub sheet : SheetRows
  pub verdict : Verdict
  pub worths : WorthLists
  pub says_problem : SaysProblem setup forecast problem
  pub says_sheet : SaysSheet problem text sheet
  pub is_verdict : IsSheetVerdict problem sheet verdict
  pub are_worths : AreWorthLists problem worths
  pub drawn : octets ≡ chart (picture_of problem sheet verdict (Some worths))
