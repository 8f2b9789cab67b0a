use Rattle.std.proofs.Common.{◌≡◌, ◌<◌, ◌^◌, drop}
use Rattle.mm_base.specs.Numbers.{digits_number}
use Rattle.mm_utc.proofs.digits.digits_value.Given as goal

abbrev pub invariant-loop-digit : goal.invariant-loop-digit
invariant-loop-digit l = record {
  below : l.number < 10 ^ l.digit-index;
  left : digits_number l.number (drop l.digit-index l.digits) ≡ digits_number 0 l.digits;
}
