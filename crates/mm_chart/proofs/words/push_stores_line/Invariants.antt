use Rattle.std.proofs.Common.{◌≡◌, ◌++◌}
use Rattle.std.specs.List.{flat_map, range_with_len}
use Rattle.mm_chart.specs.Words.{stretched_at}
use Rattle.mm_chart.proofs.words.push_stores_line.Given as goal

abbrev pub invariant-loop-store : goal.invariant-loop-store
invariant-loop-store l =
    l.text.items ≡ l.initial.text.items ++ flat_map (stretched_at l.picture l.y) (range_with_len 0 l.store)
