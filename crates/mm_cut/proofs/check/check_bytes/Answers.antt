use Rattle.std.proofs.Common.{ℕ, List, ◌≡◌, subst}
use Rattle.mm_problem.specs.Dumping.{Dumping}
use Rattle.mm_problem.specs.Texts.{SaysProblem}
use Rattle.mm_plan.specs.Table.{amount}
use Rattle.mm_plan.specs.Volumes.{Amounts, loss}
use Rattle.mm_plan.specs.Sheet.{SheetRows}
use Rattle.mm_cut.specs.Checking.{SaysSheet, LosesAs}
use Rattle.mm_cut.specs.Verdicts.{IsSheetVerdict}
use Rattle.mm_cut.proofs.ShownFirsts.{least_with, in_order_with}
use Rattle.mm_cut.proofs.check.check_bytes.Goals as goal

-- what is said of the problem and the sheet is said of the texts
loses : {P : Dumping → Amounts → Type 0} {setup forecast text : List ℕ} {q : Dumping} {s : SheetRows} {n : ℕ}
    → SaysProblem setup forecast q → SaysSheet q text s → P q (amount s.plan) × (n ≡ loss q (amount s.plan))
    → LosesAs P setup forecast text n
loses {q = q} {s = s} says_problem says_sheet said = record {
  problem = q;
  sheet = s;
  says_problem = says_problem;
  says_sheet = says_sheet;
  least = said.0;
  loss = said.1;
}

pub returns-clause-verdict : goal.returns-clause-verdict
returns-clause-verdict c = record {
  problem = c.in_ok-problem.problem;
  sheet = c.in_ok-problem.sheet;
  says_problem = c.in_ok-problem.ensures.problem;
  says_sheet = c.in_ok-problem.ensures.sheet;
  verdict = c.verdict_of-verdict.ensures;
}

pub returns-clause-least : goal.returns-clause-least
returns-clause-least c n is_least =
    let q = c.in_ok-problem.problem in
    let s = c.in_ok-problem.sheet in
    loses c.in_ok-problem.ensures.problem c.in_ok-problem.ensures.sheet
    (least_with q s s.firsts n (subst (IsSheetVerdict q s) is_least c.verdict_of-verdict.ensures))

pub returns-clause-in_order : goal.returns-clause-in_order
returns-clause-in_order c n is_in_order =
    let q = c.in_ok-problem.problem in
    let s = c.in_ok-problem.sheet in
    loses c.in_ok-problem.ensures.problem c.in_ok-problem.ensures.sheet
    (in_order_with q s s.firsts n (subst (IsSheetVerdict q s) is_in_order c.verdict_of-verdict.ensures))
