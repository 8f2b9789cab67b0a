use Rattle.std.proofs.Common.{ℕ, ap, ◌∙◌, arith}
use lib.Bits.{bit_xor}
use Rattle.mm_blocks.specs.Check.{divided}
use Rattle.mm_blocks.proofs.CheckLemmas.{after_eight_is}
use Rattle.mm_blocks.proofs.check.after_eight.Goals as goal

pub returns : goal.returns
returns c =
    after_eight_is c.args.register c.from_le_bytes.result c.remainder_of_eight.result c.args.octets.now
    (λ i. omega (arith, c.fits-octets i)) c.told-octets c.from_le_bytes.ensures
    (c.remainder_of_eight.ensures ∙ ap (λ (x : ℕ). divided 64 (bit_xor c.from_le_bytes.result x)) c.from.ensures)
