-- One setup and forecast say one problem, with one table of worths; one plan text says one sheet; and one verdict
-- holds of them.
use Rattle.mm_c.proofs.Words.{◌≡◌, List, ℕ, None, sym, ap, ◌∙◌, subst, amount, [], ◌∷◌, refl, arith, get_or, length}
use Rattle.std.specs.Prelude.{Result, Ok, Err, ◌+◌, map}
use Rattle.std.proofs.Common.{All, drop}
use Rattle.std.proofs.lemmas.List.Elements.{All-head, All-tail}
use Rattle.mm_problem.specs.declared.fault.Fault.{Fault as SetupFault}
use Rattle.mm_problem.specs.Dumping.{Dumping}
use Rattle.mm_problem.specs.Texts.{SaysProblem}
use Rattle.mm_plan.specs.Sheet.{SheetRows, OneTextOneSheet}
use Rattle.mm_cut.specs.Checking.{SaysSheet, Checks}
use Rattle.mm_cut.specs.Lines.{line_of}
use Rattle.mm_cut.specs.Verdicts.{IsSheetVerdict, SheetVerdictsExclude}
use Rattle.mm_cut.specs.declared.verdict.Verdict.{Verdict}
use Rattle.mm_chart.specs.Charts.{Charts, chart}
use Rattle.mm_chart.specs.Picture.{picture_of}
use Rattle.mm_chart.specs.Table.{IsTableOf, table}
use Rattle.mm_sensitivity.specs.Items.{items, number, next_number, least_number, with_number}
use Rattle.mm_sensitivity.specs.Table.{IsWorthTable, table as worth_table}
use Rattle.mm_sensitivity.specs.Worth.{IsLeastLoss, IsSaved, IsWorth}
use Rattle.mm_sensitivity.specs.declared.item.Item.{Item}
use Rattle.mm_sensitivity.specs.declared.worth.Worth.{Worth}

-- what a result holds, or something else
held : Dumping → Result Dumping SetupFault → Dumping
held q (Ok r) = r
held q (Err fault) = q

pub one_problem : (setup forecast : List ℕ) (q r : Dumping) → SaysProblem setup forecast q
    → SaysProblem setup forecast r → q ≡ r
unfolding held
one_problem setup forecast q r first second = ap (held q) (sym first ∙ second)

module _ (one : OneTextOneSheet) where
  one_sheet : (plan : List ℕ) (q r : Dumping) (s z : SheetRows) → SaysSheet q plan s → SaysSheet r plan z → s ≡ z
  one_sheet plan q r s z first second = one s z first.is_sheet second.is_sheet (sym first.text ∙ second.text)

  pub one_table : (setup forecast plan a b : List ℕ) → IsTableOf setup forecast plan a
      → IsTableOf setup forecast plan b → a ≡ b
  one_table setup forecast plan a b x y =
      let problem = one_problem setup forecast x.problem y.problem x.says_problem y.says_problem in
      let sheet = one_sheet plan x.problem y.problem x.sheet y.sheet x.says_sheet y.says_sheet in
      x.table ∙ ap (λ (q : Dumping). table q (amount x.sheet.plan)) problem
      ∙ ap (λ (s : SheetRows). table y.problem (amount s.plan)) sheet ∙ sym y.table

  module _ (exclude : SheetVerdictsExclude) where
    one_verdict : (q r : Dumping) (s z : SheetRows) (v w : Verdict) → q ≡ r → s ≡ z → IsSheetVerdict q s v
        → IsSheetVerdict r z w → v ≡ w
    one_verdict q r s z v w problem sheet first second =
        exclude q s v w first (subst (λ (p : Dumping). IsSheetVerdict p s w) (sym problem)
        (subst (λ (t : SheetRows). IsSheetVerdict r t w) (sym sheet) second))

    pub one_line : (setup forecast plan : List ℕ) (v w : Verdict) → Checks setup forecast plan v
        → Checks setup forecast plan w → line_of v ≡ line_of w
    one_line setup forecast plan v w x y =
        let problem = one_problem setup forecast x.problem y.problem x.says_problem y.says_problem in
        let sheet = one_sheet plan x.problem y.problem x.sheet y.sheet x.says_sheet y.says_sheet in
        ap line_of (one_verdict x.problem y.problem x.sheet y.sheet v w problem sheet x.verdict y.verdict)

    pub one_chart : (setup forecast plan a b : List ℕ) → Charts setup forecast plan a → Charts setup forecast plan b
        → a ≡ b
    one_chart setup forecast plan a b x y =
        let problem = one_problem setup forecast x.problem y.problem x.says_problem y.says_problem in
        let sheet = one_sheet plan x.problem y.problem x.sheet y.sheet x.says_sheet y.says_sheet in
        let verdict = one_verdict x.problem y.problem x.sheet y.sheet x.verdict y.verdict problem sheet x.is_verdict
        y.is_verdict in
        x.drawn ∙ ap (λ (q : Dumping). chart (picture_of q x.sheet x.verdict None)) problem
        ∙ ap (λ (s : SheetRows). chart (picture_of y.problem s x.verdict None)) sheet
        ∙ ap (λ (v : Verdict). chart (picture_of y.problem y.sheet v None)) verdict ∙ sym y.drawn

-- each of two least losses is at most the other
one_least_loss : (q : Dumping) (n m : ℕ) → IsLeastLoss q n → IsLeastLoss q m → n ≡ m
one_least_loss q n m x y =
    let below = x.planned.plan.least y.plan y.planned.plan.fits in
    let above = y.planned.plan.least x.plan x.planned.plan.fits in
    omega (arith, below, above, x.loss, y.loss)

one_saving : (q r : Dumping) (n m : ℕ) → IsSaved q r n → IsSaved q r m → n ≡ m
one_saving q r n m x y =
    let first = one_least_loss q (x.after + n) (y.after + m) x.first y.first in
    let second = one_least_loss r x.after y.after x.second y.second in
    omega (arith, first, second)

-- the worth of a number with these parts
abbrev worth_with : Item → ℕ → ℕ → ℕ → ℕ → Worth
worth_with item now next most without = record { item = item; now = now; next = next; most = most; without = without }

one_worth : (q : Dumping) (w v : Worth) → w.item ≡ v.item → IsWorth q w → IsWorth q v → w ≡ v
one_worth q w v item x y =
    let now : w.now ≡ v.now = x.now ∙ ap (number q) item ∙ sym y.now in
    let theirs : IsWorth q (worth_with w.item w.now v.next v.most v.without) =
    subst (λ (n : ℕ). IsWorth q (worth_with w.item n v.next v.most v.without)) (sym now)
    (subst (λ (i : Item). IsWorth q (worth_with i v.now v.next v.most v.without)) (sym item) y) in
    let next : w.next ≡ v.next =
    one_saving q (with_number q w.item (next_number w.now)) w.next v.next x.next theirs.next in
    let most : w.most ≡ v.most = one_saving q _ w.most v.most x.most theirs.most in
    let without : w.without ≡ v.without =
    one_saving (with_number q w.item (least_number w.item)) q w.without v.without x.without theirs.without in
    ap (λ (i : Item). worth_with i w.now w.next w.most w.without) item
    ∙ ap (λ (n : ℕ). worth_with v.item n w.next w.most w.without) now
    ∙ ap (λ (n : ℕ). worth_with v.item v.now n w.most w.without) next
    ∙ ap (λ (n : ℕ). worth_with v.item v.now v.next n w.without) most
    ∙ ap (λ (n : ℕ). worth_with v.item v.now v.next v.most n) without

-- worths of the same numbers are the same
one_list : (q : Dumping) (ws vs : List Worth) → map (λ w. w.item) ws ≡ map (λ w. w.item) vs → All (IsWorth q) ws
    → All (IsWorth q) vs → ws ≡ vs
one_list q [] [] same x y = refl
one_list q [] (v ∷ vs) same x y = absurd (omega (arith, ap length same))
one_list q (w ∷ ws) [] same x y = absurd (omega (arith, ap length same))
one_list q (w ∷ ws) (v ∷ vs) same x y =
    let item : w.item ≡ v.item = ap (λ (is : List Item). get_or is 0 w.item) same in
    let first = one_worth q w v item (All-head (IsWorth q) w ws x) (All-head (IsWorth q) v vs y) in
    let rest = one_list q ws vs (ap (drop 1) same) (All-tail (IsWorth q) w ws x) (All-tail (IsWorth q) v vs y) in
    ap (λ (u : Worth). u ∷ ws) first ∙ ap (λ (us : List Worth). v ∷ us) rest

pub one_worth_table : (setup forecast a b : List ℕ) → IsWorthTable setup forecast a → IsWorthTable setup forecast b
    → a ≡ b
one_worth_table setup forecast a b x y =
    let problem = one_problem setup forecast x.problem y.problem x.says_problem y.says_problem in
    let theirs = subst (λ (q : Dumping). All (IsWorth q) y.worths) (sym problem) y.are_worths.each in
    let same = x.are_worths.items ∙ ap items problem ∙ sym y.are_worths.items in
    let worths = one_list x.problem x.worths y.worths same x.are_worths.each theirs in
    x.table ∙ ap (worth_table x.problem) worths ∙ ap (λ (q : Dumping). worth_table q y.worths) problem ∙ sym y.table
