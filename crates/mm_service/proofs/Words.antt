-- The words that the proofs of this crate share: of std, of the crates below, and of its definitions.
pub use Rattle.std.proofs.Common.{All, Bool, Contains, List, [], ap, append_assoc, arith, cond, drop, false, get_or}
pub use Rattle.std.proofs.Common.{inl, inr, length, length-append, refl, rules, subst, suc, sym, take, true, zero, ℕ}
pub use Rattle.std.proofs.Common.{◌++◌, ◌+◌, ◌-◌, ◌<◌, ◌^◌, ◌∙◌, ◌∷◌, ◌≡◌, ◌≤◌}
pub use Rattle.std.proofs.Math.ListN.{set}
pub use Rattle.std.proofs.lemmas.Bool.{eqb-true, false≢true}
pub use Rattle.std.proofs.lemmas.List.{append-nil, length-map, map-append, take_at}
pub use Rattle.std.proofs.lemmas.List.Elements.{All-tail}
pub use Rattle.std.proofs.lemmas.Option.{none-some, same_Some}
pub use Rattle.std.specs.Option.{ok_or, option_copied_mut, option_map}
pub use Rattle.std.specs.Prelude.{Err, None, Ok, OnErr, Option, Result, Some, bytes_eq, fold, if◌then◌else◌, is_ok, map}
pub use Rattle.std.specs.Prelude.{nat_le, nat_lt, ◌/◌, ◌==◌}
pub use Rattle.mm_ask.specs.declared.fault.LineFault.{LineFault}
pub use Rattle.mm_base.proofs.ReadingSteps.{bind_ok, cond_ok, ok_or_ok, ok_same}
pub use Rattle.mm_base.specs.Id.{IsIdText, field_of, is_id_text}
pub use Rattle.mm_base.specs.Reading.{◌>>=◌}
pub use Rattle.mm_desk.specs.Machine.{State, next, offer, step}
pub use Rattle.mm_memory.specs.Holdings.{Holdings, state_of, store_of}
pub use Rattle.mm_memory.specs.Instruction.{Parsed, instructions_of}
pub use Rattle.mm_memory.specs.Lending.{with_state}
pub use Rattle.mm_memory.specs.Naming.{state_of_text}
pub use Rattle.mm_memory.specs.Reports.{control_at, reports_on}
pub use Rattle.mm_packet.specs.Packet.{IsPacket, IsTelemetry, SpacePacket, time_of}
pub use Rattle.mm_packet.specs.Reading.{data_field_at, packet_at, packet_of, tested}
pub use Rattle.mm_packet.specs.Spelling.{spelling, type_bit, type_fields}
pub use Rattle.mm_packet.specs.declared.header.PacketType.{PacketType}
pub use Rattle.mm_packet.specs.declared.header.PacketType.TheVariants.{Telecommand, Telemetry}
pub use Rattle.mm_st15.specs.Report.{HasCount, SpellsReport, moment_of}
pub use Rattle.mm_st15.specs.Request.{IsRequest, SpellsRequest, request_fault}
pub use Rattle.mm_st15.specs.declared.report.Report.{Report}
pub use Rattle.mm_st15.specs.declared.request.Request.{Request}
pub use Rattle.mm_store.specs.declared.stored.Stored.{Stored}
pub use Rattle.mm_service.specs.Accounts.{AreOctets}
pub use Rattle.mm_service.specs.Answering.{code_of_answer}
pub use Rattle.mm_service.specs.Applying.{Applies, PassesBound}
pub use Rattle.mm_service.specs.InstructionFields.{spaced}
pub use Rattle.mm_service.specs.Queue.{Queue, queue_of, with_report, with_reports}
pub use Rattle.mm_service.specs.Reading.{block_of, block_tested, id_tested, missing, request_of, said}
pub use Rattle.mm_service.specs.Serving.{Serving, state_named, with_store}
pub use Rattle.mm_service.specs.declared.fault.Fault.{Fault}
pub use Rattle.mm_service.specs.declared.fault.Fault.TheVariants.{BadId, NoSuchStore, TooManyReports}
