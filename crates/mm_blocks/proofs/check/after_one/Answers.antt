use Rattle.std.proofs.Common.{◌≡◌, ℕ, ◌/◌, ◌%◌, ◌^◌, ap, ◌∙◌, arith}
use lib.Bits.{bit_xor}
use Rattle.mm_blocks.specs.Check.{divided, remainder_from}
use Rattle.mm_blocks.proofs.CheckLemmas.{after_one_is}
use Rattle.mm_blocks.proofs.check.after_one.Goals as goal

pub returns : goal.returns
returns c = λ rest.
    let low : c.left_after.result ≡ divided 8 (bit_xor c.args.register c.args.octet % 2 ^ 8) = cc in
    ap (λ (x : ℕ). remainder_from (bit_xor x (c.args.register / 2 ^ 8)) rest) low
    ∙ after_one_is c.args.register c.args.octet (omega arith) rest
