use Rattle.std.proofs.Common.{refl, sym, ◌∙◌, arith}
use Rattle.mm_chart.proofs.Numbers.{amount_at_before, no_amounts}
use Rattle.mm_chart.proofs.picture.Picture.amounts.Goals as goal

pub loop-step-init : goal.loop-step-init
loop-step-init c = record {
  places = refl;
  before = λ t first. no_amounts 258 t ∙ sym (amount_at_before c.args.self.now c.args.series t first);
  after = λ t from. no_amounts 258 t;
  most = λ t. omega (arith, no_amounts 258 t);
}
