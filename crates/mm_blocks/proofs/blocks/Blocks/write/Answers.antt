use Rattle.std.proofs.Common.{IsSome, refl}
use Rattle.mm_blocks.specs.Blocks.{block_at}
use Rattle.mm_blocks.proofs.WriteLemmas.{still_chunks, is_written, others_stay}
use Rattle.mm_blocks.proofs.blocks.Blocks.write.Goals as goal

pub invariant_of-self : goal.invariant_of-self
invariant_of-self c =
    let it = c.args.self.now in
    let there : IsSome (block_at it c.args.place) = c.if-not-has.ensures.has.0 refl in
    record {
      chunked = still_chunks it.layout it.room it.chunks.items c.args.place c.chunk_of-chunk.result c.place_in-place.result c.args.time
          c.args.packet.now c.index_mut.result.now c.write_in.new.chunk it.chunked there c.chunk_of-chunk.ensures c.place_in-place.ensures
          c.index_mut.ensures.value c.write_in.ensures.written;
    }

pub returns-clause-written : goal.returns-clause-written
returns-clause-written c =
    let it = c.args.self.now in
    let there : IsSome (block_at it c.args.place) = c.if-not-has.ensures.has.0 refl in
    record {
      room = refl;
      here = is_written it.layout it.room it.chunks.items c.args.place c.chunk_of-chunk.result c.place_in-place.result c.args.time
          c.args.packet.now c.index_mut.result.now c.write_in.new.chunk it.chunked there c.chunk_of-chunk.ensures c.place_in-place.ensures
          c.index_mut.ensures.value c.write_in.ensures.written c.requires.fits;
      others = others_stay it.layout it.room it.chunks.items c.args.place c.chunk_of-chunk.result c.place_in-place.result c.args.time
          c.args.packet.now c.index_mut.result.now c.write_in.new.chunk it.chunked there c.chunk_of-chunk.ensures c.place_in-place.ensures
          c.index_mut.ensures.value c.write_in.ensures.written;
    }
