use Rattle.std.proofs.Common.{◌≡◌, ◌++◌}
use Rattle.std.specs.List.{flat_map, range_with_len}
use Rattle.mm_chart.specs.Words.{first_at}
use Rattle.mm_chart.proofs.words.push_firsts_list.Given as goal

abbrev pub invariant-loop-store : goal.invariant-loop-store
invariant-loop-store l =
    l.text.items ≡ l.initial.text.items ++ flat_map (first_at l.picture l.y) (range_with_len 0 l.store)
