use Rattle.std.proofs.Common.{◌≡◌, ◌/◌, ◌%◌, ◌^◌, arith}
use lib.Bits.{xor_assoc}
use Rattle.mm_blocks.proofs.CheckLemmas.{eight-pass}
use Rattle.mm_blocks.proofs.check.remainder_of_eight.Goals as goal

pub returns : goal.returns
returns c =
    let last : c.args.bits / 2 ^ 56 % 2 ^ 8 ≡ c.args.bits / 2 ^ 56 = omega arith in
    simp xor_assoc (cc (eight-pass c.args.bits))
