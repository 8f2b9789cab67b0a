use Rattle.std.proofs.Common.{◌≡◌, pos, refl, sym, ap, ◌∙◌, arith}
use Rattle.std.proofs.lemmas.Int.{ints}
use Rattle.mm_plan.specs.Table.{amount}
use Rattle.mm_cut.specs.Verdicts.{BoundIsRight}
use Rattle.mm_cut.proofs.Duality.{IsLeast-from_cut}
use Rattle.mm_cut.proofs.verdict.verify.Goals as goal

pub returns : goal.returns
returns c =
    let q = c.args.problem.now in
    let x = amount c.args.plan.now in
    let ds = c.args.stretches.now in
    let ts = c.args.counts.now in
    let same : c.loss_of-loss.result ≡ c.args.printed_loss = omega arith in
    let tight : pos c.loss_of-loss.result ≡ c.args.printed_bound = omega (arith, ints) in
    let right : BoundIsRight q x ds ts c.args.printed_loss c.args.printed_bound = record {
      plan = record { fits = c.in_default.ensures.ok.0 refl; loss = omega arith };
      cut = record {
        stretches = c.in_default-first_bad.ensures.none.0 refl;
        counted = c.in_default-first_bad_count.ensures.none.0 refl;
      };
      bound = omega (arith, ints);
    } in
    let shown = ap pos (sym c.loss_of-loss.ensures.loss) ∙ tight ∙ right.bound in
    record { verdict = (right, same, tight, IsLeast-from_cut q x ds ts right.plan.fits right.cut shown) }
