-- The refusals of lines, with those of the crates below.
use Rattle.mm_base.specs.declared.refusal.Refusal.{Refusal}
use Rattle.mm_base.specs.declared.refusal.Refusal.TheVariants as refusal
use Rattle.mm_packet.specs.declared.fault.Fault.{Fault as PacketFault}
use Rattle.mm_packet.specs.declared.fault.Fault.TheVariants as packet
use Rattle.mm_packet.specs.Fault.{refusal_of as packet_refusal}
use Rattle.mm_st15.specs.declared.fault.Fault.{Fault as RequestFault}
use Rattle.mm_st15.specs.declared.fault.Fault.TheVariants as request
use Rattle.mm_st15.specs.Fault.{refusal_of as request_refusal}
use Rattle.mm_ask.specs.declared.fault.LineFault.{LineFault}
use Rattle.mm_ask.specs.declared.fault.LineFault.TheVariants.{NoMemory, HexLine, Packet, Request}

-- which refusal it is
abbrev pub refusal_of : LineFault → Refusal
refusal_of = elim [
  | NoMemory ↦ refusal.NoMemory
  | HexLine ↦ refusal.HexLine
  | Packet fault ↦ packet_refusal fault
  | Request fault ↦ request_refusal fault
]

-- the refusal of a packet, as one of its line
abbrev pub of_packet : PacketFault → LineFault
of_packet packet.NoMemory = NoMemory
of_packet other = Packet other

-- the refusal of a request, as one of its line
abbrev pub of_request : RequestFault → LineFault
of_request request.NoMemory = NoMemory
of_request other = Request other
