use Rattle.std.proofs.Common.{◌≡◌, ◌<◌, length, ap, arith}
use Rattle.mm_blocks.specs.Layout.{chunk_of}
use Rattle.mm_blocks.specs.declared.layout.Layout.{Layout}
use Rattle.mm_blocks.proofs.LayoutLemmas.{has_block}
use Rattle.mm_blocks.proofs.blocks.Blocks.whole.Goals as goal

pub returns-clause-all : goal.returns-clause-all
returns-clause-all c = λ place less.
    let it = c.take_chunk.new.self in
    let given = c.in_ok-take_chunk.ensures in
    let first : chunk_of it.layout place ≡ 0 = ap (λ (l : Layout). chunk_of l place) given.layout in
    let within : chunk_of it.layout place < length it.chunks.items = omega (arith, given.more, it.chunks.ok.0) in
    let less_here : place < it.room = omega (arith, given.kept.room) in
    has_block it.layout it.room it.chunks.items place it.chunked less_here within
