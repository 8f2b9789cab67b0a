-- What a reader of a queue gave.
use Rattle.std.specs.Prelude.{◌==◌, List, [], map, filter}
use Rattle.mm_record.specs.Supplies.{Supply}
use Rattle.callers.specs.declared.instrument.Given.{Given}

-- the packets that were given in a step, in order
abbrev pub given_in : List Given → Supply
given_in notes step = map (λ n. n.packet.value) (filter (λ n. n.step.value == step) notes)

-- nothing more, in any step
abbrev pub nothing : Supply
nothing step = []
