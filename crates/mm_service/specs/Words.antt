-- The words of the crates below, and the types of this one, in which its definitions are written, passed on from one
-- place.
pub use Rattle.std.specs.Prelude.{All, Bool, Contains, Err, List, None, Ok, Option, Result, Some, [], bytes_eq, drop}
pub use Rattle.std.specs.Prelude.{flat_map, fold, length, map, min, nat_le, nat_lt, take, ℕ, ⊤}
pub use Rattle.mm_ask.specs.Counting.{Counts, counted, no_counts, numbers_of}
pub use Rattle.mm_ask.specs.Fault.{of_request, refusal_of as octets_refusal}
pub use Rattle.mm_ask.specs.Line.{packet_alone, request_alone}
pub use Rattle.mm_ask.specs.declared.fault.LineFault.{LineFault}
pub use Rattle.mm_base.specs.Id.{field_of, is_id_text}
pub use Rattle.mm_base.specs.Reading.{test}
pub use Rattle.mm_base.specs.declared.refusal.Refusal.{Refusal}
pub use Rattle.mm_desk.specs.Machine.{IsState, State, next, offer}
pub use Rattle.mm_memory.specs.Holdings.{Holdings, memory_of, state_of}
pub use Rattle.mm_memory.specs.Instruction.{instructions_of}
pub use Rattle.mm_memory.specs.declared.answer.Answer.{Answer}
pub use Rattle.mm_memory.specs.declared.tally.Tally.{Tally}
pub use Rattle.mm_packet.specs.Buffer.{over}
pub use Rattle.mm_packet.specs.Packet.{SpacePacket}
pub use Rattle.mm_packet.specs.Spelling.{spelling}
pub use Rattle.mm_packet.specs.declared.header.PacketType.TheVariants.{Telecommand, Telemetry}
pub use Rattle.mm_st15.specs.Report.{kind_of, moment_of}
pub use Rattle.mm_st15.specs.ReportKind.{code_of}
pub use Rattle.mm_st15.specs.Request.{IsRequest, SpellsRequest}
pub use Rattle.mm_st15.specs.declared.instruction.Configuration.{Configuration}
pub use Rattle.mm_st15.specs.declared.report.Report.{Report}
pub use Rattle.mm_st15.specs.declared.request.Request.{Request}
pub use Rattle.mm_st15.specs.declared.service.TheConstants.{SERVICE}
pub use Rattle.mm_store.specs.declared.stored.Stored.{Stored}
pub use Rattle.mm_service.specs.declared.entry_fields.EntryFields.{EntryFields}
pub use Rattle.mm_service.specs.declared.fault.Fault.{Fault}
pub use Rattle.mm_service.specs.declared.fault.Fault.TheVariants.{BadId, NoMemory, NoSuchStore, Octets}
pub use Rattle.mm_service.specs.declared.fault.Fault.TheVariants.{State as Refuses, TooLong, TooManyReports}
pub use Rattle.mm_service.specs.declared.instruction_fields.InstructionFields.{InstructionFields}
pub use Rattle.mm_service.specs.declared.offering.Fate.{Fate}
pub use Rattle.mm_service.specs.declared.reporting.Reported.{Reported}
pub use Rattle.mm_service.specs.declared.requesting.FieldsFault.{FieldsFault}
pub use Rattle.mm_service.specs.declared.requesting.FieldsFault.TheVariants.{CountMismatch, Idle, Limit, UnknownSubtype}
