-- What was printed is what is lost.
use Rattle.std.proofs.Common.{◌≡◌, ℕ, ◌+◌, ◌≤◌, List, length, refl, ap, sym, ◌∙◌, arith}
use Rattle.mm_plan.specs.Volumes.{first_loss}
use Rattle.mm_plan.specs.Sheet.{SheetRows}
use Rattle.mm_planner.specs.PlanTexts.{PlansFor, Shows}
use Rattle.mm_planner.specs.declared.goal.Goal.{Goal}
use Rattle.mm_planner.specs.declared.goal.Goal.TheVariants.{Least, InOrder}
use Rattle.mm_carry.specs.Words.{amount, loss, Holdings, Supply, Sent, Reported, totals_of}
use Rattle.mm_carry.specs.Ending.{IsCarriedOut}
use Rattle.mm_carry.specs.RunInput.{RunInput, as_came}
use Rattle.mm_carry.specs.Beyond.{lost_by_first}
use Rattle.mm_carry.proofs.Beyond.{first_lost_as_planned, loses_as_in_hindsight, loses_at_most, same_loss}
use Rattle.mm_exec.specs.Flying.{FirstsLoseAtMost, FirstsLoseWhatIsPrinted, LosesWhatIsPrinted}

-- the headline, of a plan that was printed and carried out
pub headline_of : (m : RunInput) (text : List ℕ) (sheet : SheetRows) (report : Reported) → m.amounts ≡ amount sheet.plan
    → PlansFor m.problem text sheet
    → (totals_of report.steps).lost ≡ loss (as_came m) m.amounts → LosesWhatIsPrinted m sheet report
headline_of m text sheet report amounts plans total =
    let planned = ap (loss m.problem) amounts ∙ plans.shows_least.loss in
    record {
      fits = plans.shows_least.least.fits;
      least = λ other fits. rw (← plans.shows_least.loss) (plans.shows_least.least.least other fits);
      cut = plans.shows_least.cut;
      shown = plans.shows_least.bound;
      lost = λ met. omega (arith, total, planned, same_loss m met);
      at_most = loses_at_most m sheet.loss (totals_of report.steps).lost planned total;
      hindsight = loses_as_in_hindsight m (totals_of report.steps).lost
          (loses_at_most m (loss m.problem m.amounts) (totals_of report.steps).lost refl total)
          (λ other fits. omega (arith, planned, plans.shows_least.loss, plans.shows_least.least.least other fits));
    }

-- what the first stores lose in a run that was carried out, where certificates of them are printed
pub firsts_of : {L : Type 0} {sent : L → List Sent} {failed : L → ℕ} {m : RunInput} {links : List L}
    {memory : Holdings} {left : List Supply} {links_left : List L} {report : Reported} (goal : Goal) (sheet : SheetRows)
    → m.amounts ≡ amount sheet.plan → Shows goal m.problem sheet
    → IsCarriedOut sent failed m sheet.plan links memory left links_left report
    → FirstsLoseWhatIsPrinted m sheet.firsts report
firsts_of Least sheet amounts plain done = rw plain tt
firsts_of {m = m} InOrder sheet amounts shows done =
    rw shows.has (λ met k c below.
    let few : k + 1 ≤ length m.problem.rows = omega (arith, shows.in_order.count, below) in
    ap (λ (r : Reported). lost_by_first (k + 1) r.steps) done.ran.done.report_is ∙ first_lost_as_planned m met
    (k + 1) few ∙ ap (first_loss (k + 1) m.problem) amounts ∙ sym (shows.in_order.show k c below).loss)

-- and what they lose at most, whatever came
pub firsts_at_most_of : {L : Type 0} {sent : L → List Sent} {failed : L → ℕ} {m : RunInput} {links : List L}
    {memory : Holdings} {left : List Supply} {links_left : List L} {report : Reported} (goal : Goal) (sheet : SheetRows)
    → m.amounts ≡ amount sheet.plan → Shows goal m.problem sheet
    → IsCarriedOut sent failed m sheet.plan links memory left links_left report
    → FirstsLoseAtMost m sheet.firsts report
firsts_at_most_of Least sheet amounts plain done = rw plain tt
firsts_at_most_of {m = m} InOrder sheet amounts shows done =
    rw shows.has (λ k c below.
    let few : k + 1 ≤ length m.problem.rows = omega (arith, shows.in_order.count, below) in
    omega (
      arith,
      done.isolated.firsts (k + 1) few,
      ap (first_loss (k + 1) m.problem) amounts,
      (shows.in_order.show k c below).loss,
    ))
