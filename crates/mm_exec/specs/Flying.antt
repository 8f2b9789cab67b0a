-- A run that begins with its plan: what is printed, and what is lost.
use Rattle.std.specs.Prelude.{◌≡◌, ℕ, ◌+◌, ◌<◌, ◌≤◌, List, [], length, slice_index_or, pos, Option, IfSome}
use Rattle.std.specs.List.{range_with_len, sum_by}
use Rattle.mm_carry.specs.Words.{Dumping, Fits, amount, Amounts, loss, Holdings, Supply, Sent, Reported, totals_of}
use Rattle.mm_carry.specs.Words.{NoMemory}
use Rattle.mm_plan.specs.Sheet.{SheetRows, CertificateRows}
use Rattle.mm_cut.specs.Cuts.{IsCut, bound}
use Rattle.mm_planner.specs.PlanTexts.{PlansFor, Shows}
use Rattle.mm_planner.specs.declared.goal.Goal.{Goal}
use Rattle.mm_planner.specs.declared.goal.Goal.TheVariants.{Least}
use Rattle.mm_carry.specs.declared.run_end.Flown.{Flown}
use Rattle.mm_carry.specs.declared.run_end.FlyHalted.{FlyHalted}
use Rattle.mm_carry.specs.RunInput.{RunInput, run_input}
pub use Rattle.mm_carry.specs.Beyond.{AsForecast, LosesAsInHindsight, LosesAtMost, beyond_at, lost_by_first}
use Rattle.mm_carry.specs.Ending.{over_memory, IsCarriedOut, IsUntouched, stop_of, IsHalted}

-- THE HEADLINE: what was printed is what is lost. The printed plan fits every window and every channel's limit, no plan
-- that fits loses fewer blocks than the printed number, and the printed cut shows this; where what came is what was
-- forecast, the packets lost in the run are the printed number; what came beyond the forecast cost no more than itself;
-- and no plan made with knowledge of what came loses fewer of it by more than came otherwise
pub record LosesWhatIsPrinted (m : RunInput) (sheet : SheetRows) (report : Reported) : Type 0 where
  pub fits : Fits m.problem (amount sheet.plan)
  pub least : (other : Amounts) → Fits m.problem other → sheet.loss ≤ loss m.problem other
  pub cut : IsCut m.problem sheet.cut sheet.by_channels
  pub shown : bound m.problem sheet.cut sheet.by_channels ≡ pos sheet.loss
  pub lost : AsForecast m → (totals_of report.steps).lost ≡ sheet.loss
  pub at_most : LosesAtMost m sheet.loss (totals_of report.steps).lost
  pub hindsight : LosesAsInHindsight m (totals_of report.steps).lost

-- where what came is what was forecast, the first store, the first two and so on lose in the run the number that is
-- printed of them, as far as certificates of them are printed
abbrev pub FirstsLoseWhatIsPrinted : RunInput → Option (List CertificateRows) → Reported → Type 0
FirstsLoseWhatIsPrinted m firsts report = IfSome firsts (λ cs. AsForecast m → (k : ℕ) (c : CertificateRows)
    → k < length cs → lost_by_first (k + 1) report.steps ≡ (slice_index_or cs k c).loss)

-- whatever came, the first store, the first two and so on lose in the run at most the number that is printed of them,
-- and one packet more for each that came to them beyond the forecast, as far as certificates of them are printed
abbrev pub FirstsLoseAtMost : RunInput → Option (List CertificateRows) → Reported → Type 0
FirstsLoseAtMost m firsts report = IfSome firsts (λ cs. (k : ℕ) (c : CertificateRows) → k < length cs
    → lost_by_first (k + 1) report.steps
    ≤ (slice_index_or cs k c).loss + sum_by (beyond_at m) (range_with_len 0 (k + 1)))

-- a plan was made for this goal, printed, and carried out, with sources that give this and have that left
pub record FliesFor {S L : Type 0} (goal : Goal) (sent : L → List Sent) (failed : L → ℕ) (q : Dumping) (base : ℕ)
    (before : Holdings) (given : List Supply) (links : List L) (after : Holdings) (flown : Flown S L)
    (left : List Supply) : Type 0 where
  pub sheet : SheetRows
  pub plans : PlansFor q flown.sheet.items sheet
  pub shows : Shows goal q sheet
  pub carried_out : IsCarriedOut sent failed (run_input q sheet.plan base before given) sheet.plan links after left
      flown.links.items flown.report
  pub headline : LosesWhatIsPrinted (run_input q sheet.plan base before given) sheet flown.report
  pub firsts : FirstsLoseWhatIsPrinted (run_input q sheet.plan base before given) sheet.firsts flown.report
  pub firsts_at_most : FirstsLoseAtMost (run_input q sheet.plan base before given) sheet.firsts flown.report

-- a plan was made for this goal, and printed, and its run was halted, with sources that give this and have that left
pub record FliesNotFor {S L : Type 0} (goal : Goal) (sent : L → List Sent) (failed : L → ℕ) (q : Dumping) (base : ℕ)
    (before : Holdings) (sources : List S) (given : List Supply) (links : List L) (after : Holdings)
    (ended : FlyHalted S L) (left : List Supply) : Type 0 where
  pub sheet : SheetRows
  pub plans : PlansFor q ended.sheet.items sheet
  pub shows : Shows goal q sheet
  pub halted : IsHalted sent failed (run_input q sheet.plan base before given) sheet.plan sources links after
      ended.halted left

-- a plan that loses least was made, printed with the certificate of all stores alone, and carried out
abbrev pub Flies : {S L : Type 0} → (L → List Sent) → (L → ℕ) → Dumping → ℕ → Holdings → List Supply → List L
    → Holdings → Flown S L → List Supply → Type 0
Flies sent failed q base before given links after flown left =
    FliesFor Least sent failed q base before given links after flown left

-- such a plan was made and printed, and its run was halted
abbrev pub FliesNot : {S L : Type 0} → (L → List Sent) → (L → ℕ) → Dumping → ℕ → Holdings → List S → List Supply
    → List L → Holdings → FlyHalted S L → List Supply → Type 0
FliesNot sent failed q base before sources given links after ended left =
    FliesNotFor Least sent failed q base before sources given links after ended left

-- there was no memory to plan: nothing is printed, and nothing was done
pub record HasNoPlan {S L : Type 0} (before : Holdings) (sources : List S) (links : List L) (after : Holdings)
    (ended : FlyHalted S L) : Type 0 where
  pub sheet_is : ended.sheet.items ≡ []
  pub cause_is : ended.halted.cause ≡ NoMemory 0
  pub routes : after.routes ≡ before.routes
  pub untouched : IsUntouched (over_memory before sources links)
      (over_memory after ended.halted.sources.items ended.halted.links.items) (stop_of ended.halted)
      ended.halted.report
