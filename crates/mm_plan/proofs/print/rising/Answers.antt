use Rattle.std.proofs.lemmas.List.Sorted.{IsNonDecreasingBy-from_sort}
use Rattle.mm_plan.proofs.print.rising.Goals as goal

pub returns : goal.returns
returns c = record {
  same = rw (← c.in_ok-numbers.ensures.items) c.sort_unstable.ensures.permutation;
  order = IsNonDecreasingBy-from_sort (λ x. x) c.sort_unstable.new.self.items c.sort_unstable.ensures.sorted;
}
