use Rattle.std.proofs.Common.{◌≡◌, ◌<◌, length, sym, ap, ◌∙◌, arith}
use Rattle.mm_blocks.specs.Layout.{chunk_of}
use Rattle.mm_blocks.specs.declared.layout.Layout.{Layout}
use Rattle.mm_blocks.proofs.LayoutLemmas.{has_block}
use Rattle.mm_blocks.proofs.blocks.Blocks.make.Goals as goal

pub returns-clause-made : goal.returns-clause-made
returns-clause-made c =
    let it = c.chunks.self in
    let same : chunk_of it.layout c.args.place ≡ c.chunk_of-chunk.result =
    ap (λ (l : Layout). chunk_of l c.args.place) c.chunks.invariant.layout ∙ sym c.chunk_of-chunk.ensures in
    let within : chunk_of it.layout c.args.place < length it.chunks.items = omega (arith, it.chunks.ok.0) in
    let less : c.args.place < it.room = omega (arith, c.chunks.invariant.kept.room) in
    has_block it.layout it.room it.chunks.items c.args.place it.chunked less within
