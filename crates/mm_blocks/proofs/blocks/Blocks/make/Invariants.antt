use Rattle.std.proofs.Common.{◌≡◌, ◌+◌, ◌-◌, vec_len}
use Rattle.mm_blocks.specs.Blocks.{KeepsBlocks}
use Rattle.mm_blocks.proofs.blocks.Blocks.make.Given as goal

-- blocks are kept, and the layout stays
abbrev pub invariant-chunks : goal.invariant-chunks
invariant-chunks l = record { kept : KeepsBlocks l.fn.self l.self; layout : l.self.layout ≡ l.fn.self.layout }

abbrev pub decreases-chunks : goal.decreases-chunks
decreases-chunks l = l.chunk + 1 - vec_len l.self.chunks
