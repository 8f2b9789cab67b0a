-- A packet that is offered to each store that its report type is routed to.
use Rattle.mm_base.specs.Reading.{◌>>=◌}
use Rattle.mm_service.specs.Words.{ℕ, List, Result, Ok, Tally, Fault}
use Rattle.mm_memory.specs.Recording.{after_record, tally_after}
use Rattle.mm_service.specs.Reading.{block_of}
use Rattle.mm_service.specs.Serving.{Serving}

-- a packet is recorded at a moment: what becomes of it and the service that is left, or the packet's fault
abbrev pub recorded : List ℕ → ℕ → Serving → Result (Tally × Serving) Fault
recorded octets now s = do
  packet ← block_of octets
  Ok (tally_after now packet s.memory, record s { memory = after_record now packet s.memory })
