-- From a sheet to its text, and from the text to what is said of it.
use Rattle.std.proofs.Common.{◌≡◌, ℕ, List, sym, ap, ◌∙◌, subst}
use Rattle.std.specs.Prelude.{pos}
use Rattle.mm_problem.specs.Dumping.{Dumping}
use Rattle.mm_plan.specs.Table.{Table, amount, HasShape}
use Rattle.mm_plan.specs.Sheet.{SheetRows, OneTextOneSheet}
use Rattle.std.specs.List.Sorted.{IsSortedByKey}
use Rattle.mm_plan.specs.Printing.{IsOrdered, IsPrinted, stretch_key, key_cmp}
use Rattle.mm_plan.specs.Filled.{IsFilled}
use Rattle.mm_plan.specs.Volumes.{loss}
use Rattle.mm_plan.specs.Least.{IsLeast}
use Rattle.mm_cut.specs.Checking.{SaysSheet, Checks}
use Rattle.mm_cut.specs.Verdicts.{IsOwnVerdict, IsVerdictWith, IsSheetVerdict, SheetVerdictsExclude}
use Rattle.mm_cut.specs.declared.verdict.Verdict.{Verdict}
use Rattle.mm_cut.specs.declared.verdict.Verdict.TheVariants.{Least, LeastInOrder}
use Rattle.mm_problem.specs.Texts.{SaysProblem}
use Rattle.mm_planner.specs.Planned.{SheetShows}
use Rattle.mm_planner.specs.InOrder.{ShowsInOrder}
use Rattle.mm_planner.specs.PlanTexts.{IsPlain, SheetShowsInOrder, IsSheetFor, IsPrintedAs, IsPrintedFor}
use Rattle.mm_planner.specs.PlanTexts.{IsPrintedInOrder, PlansCheckLeast, PlansCheckLeastInOrder}
use Rattle.mm_planner.specs.declared.texts.PrintedPlan.{PrintedPlan}
use Rattle.mm_planner.proofs.CutOrder.{cut_in_order, bound_in_order}

-- in the order in which it is printed, a sheet shows the same
shows_in_order : (q : Dumping) (s r : SheetRows) → SheetShows q s → IsOrdered s r → SheetShows q r
shows_in_order q s r shows ordered =
    let same_plan = sym ordered.plan in
    let same_loss = sym ordered.loss in
    record {
      shape = subst (HasShape q) same_plan shows.shape;
      least = subst (λ x. IsLeast q (amount x)) same_plan shows.least;
      filled = subst (λ x. IsFilled q (amount x)) same_plan shows.filled;
      cut = cut_in_order q s.cut r.cut s.by_channels r.by_channels ordered.cut.same ordered.counts.same shows.cut;
      loss = ap (λ x. loss q (amount x)) ordered.plan ∙ shows.loss ∙ same_loss;
      bound = bound_in_order q s.cut r.cut s.by_channels r.by_channels ordered.cut.same ordered.counts.same
          ∙ shows.bound ∙ ap pos same_loss;
    }

-- a sheet that shows that its plan loses least, and its text
printed_plans : (B : Dumping → SheetRows → Type 0) → ((q : Dumping) (s r : SheetRows) → B q s → IsOrdered s r → B q r)
    → (q : Dumping) (printed : PrintedPlan) → IsSheetFor B q printed.sheet → IsPrinted printed.sheet printed.text.items
    → IsPrintedAs B q printed
printed_plans B stays q printed is text =
    let s = printed.sheet in
    let r = text.0 in
    let ordered : IsOrdered s r = text.1 in
    record {
      sheet = r;
      plans = record {
        says_sheet = record {
          is_sheet = text.2 is.is_sheet;
          text = text.3;
          shape = record {
            stores = ordered.stores ∙ is.shape.stores;
            steps = ap (λ x. x.steps) ordered.plan
                ∙ is.shape.steps;
          };
        };
        shows_least = shows_in_order q s r is.shows_least ordered;
        tight = ordered.bound ∙ is.tight ∙ ap pos (sym ordered.loss);
        in_order = record {
          cut = subst (λ ids. IsSortedByKey (stretch_key ids) key_cmp r.cut) (sym ordered.stores) ordered.cut.order;
          counts = ordered.counts.order;
        };
      };
      besides = stays q s r is.besides ordered;
      plan_is = sym ordered.plan;
    }

pub printed_plain : (q : Dumping) (printed : PrintedPlan) → IsSheetFor IsPlain q printed.sheet
    → IsPrinted printed.sheet printed.text.items → IsPrintedFor q printed
printed_plain q printed is text = printed_plans IsPlain (λ p s r plain ordered. ordered.firsts ∙ plain) q printed is
    text

pub printed_in_order : (q : Dumping) (printed : PrintedPlan) → IsSheetFor SheetShowsInOrder q printed.sheet
    → IsPrinted printed.sheet printed.text.items → IsPrintedInOrder q printed
printed_in_order q printed is text =
    printed_plans SheetShowsInOrder (λ p s r shows ordered. record {
      certificates = shows.certificates;
      has = ordered.firsts ∙ shows.has;
      in_order = subst (λ (x : Table). ShowsInOrder p x shows.certificates) (sym ordered.plan) shows.in_order;
    }) q printed is text

-- ---- the laws

-- a problem for each setup and forecast
one_problem : (setup forecast : List ℕ) (p q : Dumping) → SaysProblem setup forecast p → SaysProblem setup forecast q
    → p ≡ q
one_problem setup forecast p q says_p says_q = cc

-- what is `Least` of a sheet's own cut where it shows it
least_verdict : (q : Dumping) (s : SheetRows) → SheetShows q s → s.bound ≡ pos s.loss
    → IsOwnVerdict q s (Least (loss q (amount s.plan)))
least_verdict q s shows tight = (
  record {
    plan = record { fits = shows.least.fits; loss = sym shows.loss };
    cut = shows.cut;
    bound = tight
        ∙ sym shows.bound;
  },
  shows.loss,
  ap pos shows.loss ∙ sym tight,
  shows.least,
)

-- from the laws that verdicts on a sheet exclude one another, and that a text is that of one sheet: what is said of a
-- text is what holds of its sheet
says_one : SheetVerdictsExclude → OneTextOneSheet → (setup forecast text : List ℕ) (q : Dumping) (s : SheetRows)
    → SaysProblem setup forecast q → SaysSheet q text s → (w : Verdict) → IsSheetVerdict q s w → (v : Verdict)
    → Checks setup forecast text v → v ≡ w
says_one exclude one_sheet setup forecast text q s says_problem says_sheet w is v checks =
    let same_problem = one_problem setup forecast checks.problem q checks.says_problem says_problem in
    let same_sheet = one_sheet checks.sheet s checks.says_sheet.is_sheet says_sheet.is_sheet
    (sym checks.says_sheet.text ∙ says_sheet.text) in
    let said : IsSheetVerdict q s v = subst (λ r. IsSheetVerdict q r v) same_sheet
    (subst (λ p. IsSheetVerdict p checks.sheet v) same_problem checks.verdict) in
    exclude q s v w said is

pub plans_check_least : SheetVerdictsExclude → OneTextOneSheet → PlansCheckLeast
plans_check_least exclude one_sheet setup forecast text planned v checks =
    let q = planned.problem in
    let s = planned.sheet in
    let least = Least (loss q (amount s.plan)) in
    let is : IsSheetVerdict q s least = subst (λ o. IsVerdictWith q s o least) (sym planned.besides)
    (least_verdict q s planned.plans.shows_least planned.plans.tight) in
    says_one exclude one_sheet setup forecast text q s planned.says_problem planned.plans.says_sheet least is v checks

pub plans_check_least_in_order : SheetVerdictsExclude → OneTextOneSheet → PlansCheckLeastInOrder
plans_check_least_in_order exclude one_sheet setup forecast text planned v checks =
    let q = planned.problem in
    let s = planned.sheet in
    let least = LeastInOrder (loss q (amount s.plan)) in
    let in_order = planned.besides.in_order in
    let is : IsSheetVerdict q s least = subst (λ o. IsVerdictWith q s o least) (sym planned.besides.has)
    (least_verdict q s planned.plans.shows_least planned.plans.tight, in_order.show, in_order.least) in
    says_one exclude one_sheet setup forecast text q s planned.says_problem planned.plans.says_sheet least is v checks
