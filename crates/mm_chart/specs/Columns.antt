-- The numbers of a series by their steps, and marks of steps.
use Rattle.std.specs.Prelude.{◌≡◌, ℕ, ◌<◌, Bool, false, List, length, slice_index_or}
use Rattle.mm_cut.specs.Stretches.{is_inner, is_inner_on}
use Rattle.mm_cut.specs.Counts.{is_listed}
use Rattle.mm_cut.specs.declared.marks.TheConstants.{STEP_PLACES}
use Rattle.mm_chart.specs.declared.series.Series.{Series}
use Rattle.mm_chart.specs.declared.series.Series.TheVariants.{ChannelCounts, Inner, Last}
use Rattle.mm_chart.specs.declared.series.TheConstants.{AMOUNT_PLACES}
use Rattle.mm_chart.specs.Picture.{Drawn, cut, counts}
use Rattle.mm_chart.specs.Series.{is_inner_of, is_last_of, amount_at}

-- marks of the steps of the cut that is drawn: those that are inner, and those that are counted by channels
pub record AreStepMarks (p : Drawn) (passed by_channels : List Bool) : Type 0 where
  pub inner_places : length passed ≡ STEP_PLACES
  pub listed_places : length by_channels ≡ STEP_PLACES
  pub inner : (t : ℕ) → slice_index_or passed t false ≡ is_inner p.problem (cut p) t
  pub listed : (t : ℕ) → t < STEP_PLACES → slice_index_or by_channels t false ≡ is_listed (counts p) t

-- marks of the steps in which a series asks for a stretch
abbrev pub AreMarks : Drawn → Series → List Bool → Type 0
AreMarks p (Inner s) marks = (t : ℕ) → t < STEP_PLACES → slice_index_or marks t false ≡ is_inner_of p s t
AreMarks p (Last s) marks = (t : ℕ) → t < STEP_PLACES → slice_index_or marks t false ≡ is_last_of p s t
AreMarks p (ChannelCounts c) marks =
    (t : ℕ) → t < STEP_PLACES → slice_index_or marks t false ≡ is_inner_on p.problem (cut p) t c
AreMarks p _ marks = Unit {0}

-- the numbers of a series, each at the place of its step, and 0 at what is no step
abbrev pub AreAmounts : Drawn → Series → List ℕ → Type 0
AreAmounts p x ns = (t : ℕ) → t < AMOUNT_PLACES → slice_index_or ns t 0 ≡ amount_at p x t
