use Rattle.std.proofs.Common.{ℕ, ◌≡◌, ◌+◌, ◌≤◌, min, sym, subst, ap, arith}
use Rattle.mm_base.specs.declared.limits.TheConstants.{MAX_BLOCKS}
use Rattle.mm_problem.specs.Changed.{with_window}
use Rattle.mm_problem.specs.Dumping.{window}
use Rattle.mm_sensitivity.specs.declared.item.Item.{Item}
use Rattle.mm_sensitivity.specs.declared.item.Item.TheVariants.{Window}
use Rattle.mm_sensitivity.specs.Items.{IsItem, number, next_number, with_number}
use Rattle.mm_sensitivity.specs.Worth.{IsSaved}
use Rattle.mm_sensitivity.proofs.Found.{nothing_wider}
use Rattle.mm_sensitivity.proofs.worth.next_saved.Goals as goal

pub returns-in-Window : goal.returns-in-Window
returns-in-Window c =
    let q = c.args.base.now.problem.now in
    let t = c.in-Window.field-0 in
    let here : c.args.item ≡ Window t = c.in-Window.is in
    let value : number q c.args.item ≡ window q t = ap (number q) here in
    let within : window q t ≤ MAX_BLOCKS = omega (arith, value, c.number-now.ensures.number, c.number-now.ensures.most)
    in
    let nothing : c.args.most ≡ 0 = omega (arith, c.if-most-eq0.true) in
    let widest : IsSaved q (with_window q t MAX_BLOCKS) 0 = subst (IsSaved q (with_window q t MAX_BLOCKS)) nothing
    (subst (λ (i : Item). IsSaved q (with_number q i MAX_BLOCKS) c.args.most) here c.requires.most) in
    let item : IsItem q (Window t) = subst (IsItem q) here c.requires.item in
    let next : ℕ = min (window q t + 1) MAX_BLOCKS in
    subst (λ (i : Item). IsSaved q (with_number q i (next_number (number q i))) 0) (sym here)
    (nothing_wider c.cuts_bound_losses.ensures q t next item (omega (arith, within)) (omega arith) widest)
