-- A packet that is offered to one store.
use Rattle.mm_base.specs.Reading.{◌>>=◌}
use Rattle.mm_service.specs.Words.{ℕ, List, Result, Ok, Err, offer, Fault, Refuses, Fate}
use Rattle.mm_desk.specs.declared.reply.Offered.{Offered}
use Rattle.mm_desk.specs.declared.reply.Returned.{Returned}
use Rattle.mm_service.specs.declared.offering.Fate.TheVariants.{Kept, KeptOver, Lost}
use Rattle.mm_service.specs.Reading.{id_tested, block_of}
use Rattle.mm_service.specs.Serving.{Serving, state_named, with_store}
use Rattle.mm_desk.specs.declared.reply.Offered.TheVariants as answer

-- what became of a packet, by the store machine's answer to its offer
abbrev pub fate_of : Result Offered Returned → Result Fate Fault
fate_of (Ok (answer.Kept time)) = Ok (Kept time)
fate_of (Ok (answer.KeptOver time oldest)) = Ok (KeptOver time)
fate_of (Ok (answer.Lost packet)) = Ok Lost
fate_of (Err back) = Err (Refuses back.fault)

-- a packet is offered to a store at a moment: its fate and the service that is left, or the first test that fails
abbrev pub offered : List ℕ → List ℕ → ℕ → Serving → Result (Fate × Serving) Fault
offered id octets now s = do
  field ← id_tested id
  packet ← block_of octets
  state ← state_named field s
  fate ← fate_of (offer state now packet).0
  Ok (fate, with_store field s (offer state now packet).1)
