-- The text of a sheet whose plan keeps the first steps of a plan.
use Rattle.std.proofs.Common.{◌≡◌, ℕ, ◌+◌, pos, map, sym, ap, ◌∙◌, subst}
use Rattle.std.specs.List.Sorted.{IsSortedByKey}
use Rattle.std.proofs.lemmas.List.Sorted.{IsPermutation-trans}
use Rattle.mm_problem.specs.Dumping.{Dumping}
use Rattle.mm_plan.specs.Fit.{Fits, FitsBefore}
use Rattle.mm_plan.specs.Least.{IsLeast}
use Rattle.mm_plan.specs.Printing.{IsOrdered, IsPrinted, key_cmp, stretch_key}
use Rattle.mm_plan.specs.Sheet.{SheetRows, IsSheet}
use Rattle.mm_plan.specs.Table.{Table, amount}
use Rattle.mm_plan.specs.Volumes.{Amounts, loss}
use Rattle.mm_planner.specs.PlanTexts.{IsPlain, IsSheetFor}
use Rattle.mm_planner.specs.declared.texts.PrintedPlan.{PrintedPlan}
use Rattle.mm_planner.proofs.CutOrder.{bound_in_order, cut_in_order}
use Rattle.mm_rest.specs.Laws.{LosesLeastAfter, SameUntil, later}
use Rattle.mm_rest.specs.Rests.{rest_after}
use Rattle.mm_keep.specs.Keeps.{IsKeptSheet, later_counts, later_stretch}
use Rattle.mm_keep.specs.Printed.{IsPrintedKept}
use Rattle.mm_keep.proofs.KeptSheets.{IsRestSheet}

-- the planner's sheet of the rest
pub rest_sheet : (q : Dumping) (x : Amounts) (n : ℕ) (r : Dumping) (s : SheetRows) → r ≡ rest_after q x n
    → IsSheetFor IsPlain r s → IsRestSheet (rest_after q x n) s
rest_sheet q x n r s same is = subst (λ rest. IsRestSheet rest s) same (record {
  is_sheet = is.is_sheet;
  shape = is.shape;
  plan = is.shows_least.shape;
  least = is.shows_least.least;
  cut = is.shows_least.cut;
  loss = is.shows_least.loss;
  bound = is.shows_least.bound;
})

-- in the order in which it is printed it is such a sheet
kept_in_order : (q : Dumping) (x : Amounts) (n : ℕ) (s r : SheetRows) → IsKeptSheet q x n s → IsOrdered s r → IsSheet r
    → IsKeptSheet q x n r
kept_in_order q x n s r is ordered is_sheet =
    let same = sym ordered.plan in
    let shows = is.shows in
    record {
      is_sheet = is_sheet;
      shape = record {
        stores = ordered.stores ∙ is.shape.stores;
        steps = ap (λ (p : Table). p.steps) ordered.plan ∙ is.shape.steps;
      };
      plain = ordered.firsts ∙ is.plain;
      kept = subst (λ (p : Table). SameUntil q n x (amount p)) same is.kept;
      rest = subst (λ (p : Table). IsLeast (rest_after q x n) (later n (amount p))) same is.rest;
      least_after = subst (λ (p : Table). LosesLeastAfter q n (amount p)) same is.least_after;
      fits = subst (λ (p : Table). FitsBefore q x (n + 1) → Fits q (amount p)) same is.fits;
      loss = ordered.loss ∙ is.loss ∙ ap (λ (p : Table). loss q (amount p)) same;
      cut = cut_in_order q s.cut r.cut s.by_channels r.by_channels ordered.cut.same ordered.counts.same is.cut;
      bound = ordered.bound ∙ is.bound
          ∙ sym (bound_in_order q s.cut r.cut s.by_channels r.by_channels ordered.cut.same ordered.counts.same);
      shows = record {
        stretches = shows.stretches;
        by_channels = shows.by_channels;
        is_cut = shows.is_cut;
        tight = shows.tight ∙ ap (λ (p : Table). pos (loss (rest_after q x n) (later n (amount p)))) same;
        first = shows.first;
        from = shows.from;
        until = shows.until;
        stretches_are = IsPermutation-trans (map (later_stretch n shows.first) shows.stretches) s.cut r.cut
            shows.stretches_are ordered.cut.same;
        counts_are = IsPermutation-trans (later_counts n shows.by_channels) s.by_channels r.by_channels
            shows.counts_are ordered.counts.same;
      };
    }

pub printed_kept : (q : Dumping) (x : Amounts) (n : ℕ) (printed : PrintedPlan) → IsKeptSheet q x n printed.sheet
    → IsPrinted printed.sheet printed.text.items → IsPrintedKept q x n printed
printed_kept q x n printed is text =
    let r = text.0 in
    let ordered : IsOrdered printed.sheet r = text.1 in
    let is_sheet : IsSheet r = text.2 is.is_sheet in
    let kept = kept_in_order q x n printed.sheet r is ordered is_sheet in
    record {
      sheet = r;
      says_sheet = record { is_sheet = is_sheet; text = text.3; shape = kept.shape };
      in_order = record {
        cut = subst (λ ids. IsSortedByKey (stretch_key ids) key_cmp r.cut) (sym ordered.stores) ordered.cut.order;
        counts = ordered.counts.order;
      };
      kept = kept;
      loss_is = sym ordered.loss;
    }
