use Rattle.std.proofs.Common.{◌<◌, length, arith, ltb-true, lt-ltb}
use Rattle.mm_blocks.specs.Layout.{chunk_of}
use Rattle.mm_blocks.proofs.LayoutLemmas.{has_block, has_place}
use Rattle.mm_blocks.proofs.blocks.Blocks.has.Goals as goal

pub returns-then-place-self : goal.returns-then-place-self
returns-then-place-self c =
    let it = c.args.self.now in
    record {
      has = (
        λ yes.
            let less : c.chunk_of.result < c.len.result = ltb-true c.chunk_of.result c.len.result yes in
            let within : chunk_of it.layout c.args.place < length it.chunks.items = omega (arith, it.chunks.ok.0) in
            has_block it.layout it.room it.chunks.items c.args.place it.chunked c.if-place-self.true within,
        λ some.
            let within : chunk_of it.layout c.args.place < length it.chunks.items =
            (has_place it.layout it.room it.chunks.items c.args.place it.chunked some).1 in
            lt-ltb c.chunk_of.result c.len.result (omega (arith, it.chunks.ok.0)),
      );
    }

pub returns-else-place-self : goal.returns-else-place-self
returns-else-place-self c =
    let it = c.args.self.now in
    record {
      has = (
        λ yes. let less : c.args.place < it.room = ltb-true c.args.place it.room yes in absurd (omega arith),
        λ some. absurd (omega (arith, (has_place it.layout it.room it.chunks.items c.args.place it.chunked some).0)),
      );
    }
