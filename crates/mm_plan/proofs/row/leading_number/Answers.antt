use Rattle.std.proofs.Common.{arith}
use Rattle.mm_plan.proofs.Fronts.{front_split, one_digit, digit_more}
use Rattle.mm_plan.proofs.row.leading_number.Goals as goal

pub returns-then-number-eq0 : goal.returns-then-number-eq0
returns-then-number-eq0 c = one_digit _ _ _ _ (front_split c.args.text.now c.in-len1-up.len_at_least) c.if-not-is_ascii_digit.ensures.value c.from-number.ensures

pub loop-rest-init : goal.loop-rest-init
loop-rest-init c = record {
  text = one_digit _ _ _ _ (front_split c.args.text.now c.in-len1-up.len_at_least) c.if-not-is_ascii_digit.ensures.value c.from-number.ensures;
  some = omega (arith, c.if-number-eq0.false);
}

pub loop-rest-preserved : goal.loop-rest-preserved
loop-rest-preserved c = record {
  text = digit_more c.loop-rest.number _ _ _ _ _ c.loop-rest.invariant.some (omega arith) c.if-not-is_ascii_digit-2.ensures.value c.from.ensures
      (front_split c.loop-rest.rest.now c.in-len1-up-rest.len_at_least) c.loop-rest.invariant.text;
  some = omega (arith, c.loop-rest.invariant.some);
}
