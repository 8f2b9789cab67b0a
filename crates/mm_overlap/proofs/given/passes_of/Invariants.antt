use Rattle.std.proofs.Common.{◌≡◌}
use Rattle.std.specs.Prelude.{map, filter, ◌==◌}
use Rattle.std.specs.List.{range_with_len}
use Rattle.mm_overlap.specs.Given.{pass, transmitter}
use Rattle.mm_overlap.proofs.given.passes_of.Given as goal

abbrev pub invariant-loop-i : goal.invariant-loop-i
invariant-loop-i l =
    l.own.items ≡ map (pass l.passes) (filter (λ i. transmitter l.numbers i == l.transmitter) (range_with_len 0 l.i))
