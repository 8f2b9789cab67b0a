use Rattle.mm_record.proofs.Words.{◌≡◌, ◌+◌, ◌≤◌, ◌++◌, length, map, vec_len, vec_capacity}
use Rattle.std.specs.Vec.Iter.{into_iter_items, into_iter_len}
use Rattle.mm_record.specs.Later.{later}
use Rattle.mm_record.proofs.later.later_sources.Given as goal

abbrev pub invariant-loop-source : goal.invariant-loop-source
invariant-loop-source g l = record {
  can : (goal.iterator-loop-source g).can_next l.source-iterator;
  finite : (goal.iterator-loop-source g).is_finite l.source-iterator;
  counted : into_iter_len l.source-iterator ≡ length (into_iter_items l.source-iterator);
  room : vec_len l.all + length (into_iter_items l.source-iterator) ≤ vec_capacity l.all;
  made : l.all.items ++ map (later l.after) (into_iter_items l.source-iterator) ≡ map (later l.after)
      l.fn.sources.items;
}
