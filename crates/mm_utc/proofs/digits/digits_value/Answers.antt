use Rattle.std.proofs.Common.{◌≡◌, ◌≤◌, ◌<◌, ◌^◌, length, get_or, refl, sym, ◌∙◌, arith}
use Rattle.mm_base.proofs.NumberLaws.{digits_more, digits_all, no_digit, has_room, more_digits}
use Rattle.mm_utc.proofs.digits.digits_value.Goals as goal

pub returns-then-not-is_ascii_digit-clause-value : goal.returns-then-not-is_ascii_digit-clause-value
returns-then-not-is_ascii_digit-clause-value c =
    sym (no_digit c.loop-digit.number c.loop-digit.digit-index
    (get_or c.args.digits.now c.loop-digit.digit-index 0) c.args.digits.now c.loop-digit-test.true refl
    (sym c.is_ascii_digit.ensures.value ∙ c.if-not-is_ascii_digit.true)) ∙ c.loop-digit.invariant.left

pub overflow_mul-number : goal.overflow_mul-number
overflow_mul-number c =
    let short : length c.args.digits.now ≤ 19 = omega arith in
    let room : c.loop-digit.number < 10 ^ 18 =
    has_room _ _ _ c.loop-digit.invariant.below c.loop-digit-test.true short in
    omega (arith, room)

pub overflow_add-number : goal.overflow_add-number
overflow_add-number c =
    let short : length c.args.digits.now ≤ 19 = omega arith in
    let room : c.loop-digit.number < 10 ^ 18 =
    has_room _ _ _ c.loop-digit.invariant.below c.loop-digit-test.true short in
    let small : c.from.result < 10 = grind arith in
    omega (arith, room, small)

pub loop-digit-preserved : goal.loop-digit-preserved
loop-digit-preserved c =
    let small : c.from.result < 10 = grind arith in
    let is_digit = sym c.is_ascii_digit.ensures.value ∙ c.if-not-is_ascii_digit.false in
    let more = digits_more c.loop-digit.number c.loop-digit.digit-index
    (get_or c.args.digits.now c.loop-digit.digit-index 0) c.args.digits.now c.loop-digit-test.true refl is_digit in
    record {
      below = more_digits _ _ _ c.loop-digit.invariant.below small;
      left = rw c.from.ensures (sym more ∙ c.loop-digit.invariant.left);
    }

pub returns-clause-value : goal.returns-clause-value
returns-clause-value c = sym (digits_all c.loop-digit.number c.loop-digit.digit-index c.args.digits.now (omega arith))
    ∙ c.loop-digit.invariant.left

pub returns-clause-small : goal.returns-clause-small
returns-clause-small c =
    let whole : c.loop-digit.digit-index ≡ length c.args.digits.now = omega arith in
    rw (← whole) c.loop-digit.invariant.below
