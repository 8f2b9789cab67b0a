-- What became of a packet in several stores.
use Rattle.std.specs.Prelude.{◌+◌}
use Rattle.mm_memory.specs.Words.{ℕ, Result, Ok, Err, Offered, Kept, KeptOver, Lost, Returned, Tally}

-- how many stores keep the packet, how many packets are lost, and how many stores refuse it
abbrev pub counted : ℕ → ℕ → ℕ → Tally
counted kept lost refused = record { kept = kept; lost = lost; refused = refused }

-- that of no store
abbrev pub nothing : Tally
nothing = counted 0 0 0

-- that of one store, by the store machine's answer
abbrev pub tally_of : Result Offered Returned → Tally
tally_of (Ok (Kept time)) = counted 1 0 0
tally_of (Ok (KeptOver time oldest)) = counted 1 1 0
tally_of (Ok (Lost packet)) = counted 0 1 0
tally_of (Err back) = counted 0 0 1

-- two together
abbrev pub plus : Tally → Tally → Tally
plus a b = counted (a.kept + b.kept) (a.lost + b.lost) (a.refused + b.refused)
