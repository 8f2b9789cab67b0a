use Rattle.std.proofs.Common.{◌≡◌}
use Rattle.std.specs.Prelude.{map}
use Rattle.std.specs.List.{range_with_len}
use Rattle.mm_overlap.specs.Given.{mission_of}
use Rattle.mm_overlap.proofs.given.both.Given as goal

abbrev pub invariant-loop-transmitter : goal.invariant-loop-transmitter
invariant-loop-transmitter l =
    l.missions.items ≡ map (mission_of l.mission l.passes l.numbers.items) (range_with_len 0 l.transmitter)
