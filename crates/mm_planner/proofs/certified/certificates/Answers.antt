use Rattle.std.proofs.Common.{◌≡◌, ℕ, ◌+◌, ◌*◌, ◌≤◌, [], ◌∷◌, length, drop, sym, ap, ◌∙◌, subst, arith, length-append}
use Rattle.std.proofs.Common.{length-drop}
use Rattle.std.specs.Prelude.{All}
use Rattle.std.specs.Vec.Iter.{into_iter_items}
use Rattle.std.proofs.lemmas.List.Elements.{All-push}
use Rattle.mm_base.specs.declared.limits.TheConstants.{MAX_STORES, MAX_STEPS, MAX_BLOCKS}
use Rattle.mm_plan.specs.Table.{amount}
use Rattle.mm_plan.specs.declared.certificate.Cut.{Cut}
use Rattle.mm_plan.specs.Sheet.{CertificateRows}
use Rattle.mm_cut.specs.Firsts.{ShowsFirst, ShowFirsts}
use Rattle.mm_planner.specs.InOrder.{CutShows}
use Rattle.mm_planner.proofs.Showing.{next_of, ShowFirsts-push}
use Rattle.mm_planner.proofs.certified.certificates.Goals as goal

-- a cut that does not show its loss is one of them
pub returns-in_default-clause-none : goal.returns-in_default-clause-none
returns-in_default-clause-none c = λ all.
    let q = c.args.problem.now in
    let x = c.args.plan.now in
    let cuts = c.args.cuts.items in
    let done = length c.loop-cut.firsts.items in
    let cut = c.in-Some.cut in
    let next = next_of cuts (into_iter_items c.next.new.self) cut done
    (c.loop-cut.invariant.left ∙ c.in-Some.ensures.steps.0) in
    let many : done ≡ c.len.result = omega (arith, c.len.ensures) in
    c.in_default.ensures.none
    (subst (λ (k : ℕ). CutShows (k + 1) q x cut) many
    (subst (λ (d : Cut). CutShows (done + 1) q x d) next.1 (all done cut next.0)))

pub loop-cut-preserved : goal.loop-cut-preserved
loop-cut-preserved c =
    let q = c.args.problem.now in
    let x = amount c.args.plan.now in
    let before = c.loop-cut.invariant in
    let steps = c.in-Some.ensures.steps in
    let firsts = c.loop-cut.firsts.items in
    let first = c.in-Some-certificate.first in
    let rest = into_iter_items c.next.new.self in
    let next = next_of c.args.cuts.items rest c.in-Some.cut (length firsts) (before.left ∙ steps.0) in
    let items = c.in_ok-push.ensures.items in
    let one_more : length c.push.new.self.items ≡ length firsts + 1 = omega
    (arith, ap length items, length-append firsts (first ∷ [])) in
    let many : c.len.result ≡ length firsts = omega (arith, c.len.ensures) in
    let few = λ (r : CertificateRows). r.loss ≤ 2 * MAX_BLOCKS * MAX_STEPS * MAX_STORES in
    record {
      can = tt;
      finite = tt;
      counted = omega (arith, before.counted, steps.1, ap length steps.0);
      within = omega (arith, one_more, next.0);
      left = subst (λ (n : ℕ). drop n c.args.cuts.items ≡ rest) (sym one_more) next.2;
      show = subst (ShowFirsts q x) (sym items)
          (ShowFirsts-push q x firsts first before.show
          (subst (λ (k : ℕ). ShowsFirst (k + 1) q x first) many c.in-Some-certificate.ensures.shows));
      most = subst (All few) (sym items) (All-push few firsts first before.most c.in-Some-certificate.ensures.most);
    }

pub returns-clause-count : goal.returns-clause-count
returns-clause-count c =
    let before = c.loop-cut.invariant in
    omega (
      arith,
      before.within,
      ap length before.left,
      length-drop (length c.loop-cut.firsts.items) c.args.cuts.items,
      before.counted,
      c.in-None.ensures.steps.0,
    )
