use Rattle.std.proofs.Common.{ℕ, ◌≡◌, ◌+◌, ◌-◌, min, subst, arith}
use Rattle.mm_base.specs.declared.limits.TheConstants.{MAX_BLOCKS}
use Rattle.mm_problem.specs.Changed.{with_window}
use Rattle.mm_problem.specs.Dumping.{window}
use Rattle.mm_sensitivity.specs.Worth.{Saves, IsSaved}
use Rattle.mm_sensitivity.proofs.charts.window_worth.Goals as goal

pub returns : goal.returns
returns c =
    let q = c.args.base.now.problem.now in
    let t = c.args.step in
    let known = c.in_ok-most.ensures.saved in
    let wider : ℕ = MAX_BLOCKS - window q t in
    let least : ℕ = min wider c.in_ok-most.most in
    let all : window q t + wider ≡ MAX_BLOCKS = omega (arith, c.window-now.ensures) in
    let saves = subst (λ (k : ℕ). Saves q (with_window q t k) least) all
    (c.wider_windows.ensures q t wider c.in_ok-most.most c.requires.first c.requires.last (omega (arith, all))
    known) in
    let same = saves (known.after + c.in_ok-most.most) known.after known.first known.second in
    let told : c.in_ok-most.most ≡ c.min.result = omega (arith, same, c.min.ensures, c.window-now.ensures) in
    subst (IsSaved q (with_window q t MAX_BLOCKS)) told known
