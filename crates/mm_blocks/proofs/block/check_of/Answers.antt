use Rattle.mm_blocks.specs.Block.{check_of}
use Rattle.mm_blocks.proofs.block.check_of.Goals as goal

pub returns : goal.returns
unfolding check_of
returns c = cc (c.after_eight-register.ensures c.args.packet.now)
