-- The words of the crates below, and the types of this one, in which its definitions are written, passed on from one
-- place.
pub use Rattle.std.specs.Option.{option_map}
pub use Rattle.std.specs.Prelude.{All, Bool, Contains, Err, IsPermutation, List, None, Ok, Option, Result, Some, []}
pub use Rattle.std.specs.Prelude.{bytes_eq, false, filter, filter_map, fold, is_some, length, map, nat_lt, not, sum, ℕ}
pub use Rattle.mm_base.specs.Id.{is_id}
pub use Rattle.mm_base.specs.declared.kind.Kind.TheVariants.{Bounded, Circular}
pub use Rattle.mm_base.specs.declared.limits.TheConstants.{MAX_APID, MAX_BLOCKS, MAX_CHANNEL, MAX_STORES}
pub use Rattle.mm_base.specs.declared.rows.RouteRow.{RouteRow}
pub use Rattle.mm_control.specs.Routes.{has_row, is_for, is_to, takes, with_row, without_row, without_store}
pub use Rattle.mm_desk.specs.Fates.{BeginsNone, deleted, given, given_up, over, packets_of, taken}
pub use Rattle.mm_desk.specs.Machine.{IsState, State, offer, opening, step}
pub use Rattle.mm_desk.specs.Rest.{rest_fault}
pub use Rattle.mm_desk.specs.declared.fault.Fault.{Fault as StateFault}
pub use Rattle.mm_desk.specs.declared.held.Held.{Held}
pub use Rattle.mm_desk.specs.declared.reply.Offered.{Offered}
pub use Rattle.mm_desk.specs.declared.reply.Offered.TheVariants.{Kept, KeptOver, Lost}
pub use Rattle.mm_desk.specs.declared.reply.Returned.{Returned}
pub use Rattle.mm_packet.specs.Packet.{SpacePacket}
pub use Rattle.mm_st15.specs.declared.instruction.Configuration.{Configuration}
pub use Rattle.mm_st15.specs.declared.instruction.Target.{Target}
pub use Rattle.mm_st15.specs.declared.report_entry.Row.{Row}
pub use Rattle.mm_st15.specs.declared.request.Request.{Request}
pub use Rattle.mm_store.specs.Content.{IsRising, empty_store, newest, oldest}
pub use Rattle.mm_store.specs.declared.stored.Stored.{Stored}
pub use Rattle.mm_memory.specs.declared.answer.Answer.{Answer}
pub use Rattle.mm_memory.specs.declared.fault.Fault.{Fault}
pub use Rattle.mm_memory.specs.declared.instruction.Action.{Action}
pub use Rattle.mm_memory.specs.declared.instruction.Action.TheVariants.{Change as Changes, Create, Delete, Report}
pub use Rattle.mm_memory.specs.declared.instruction.Action.TheVariants.{Route}
pub use Rattle.mm_memory.specs.declared.instruction.RouteChange.{RouteChange}
pub use Rattle.mm_memory.specs.declared.instruction.StoreChange.TheVariants.{Abort, Begin, DeleteContent, Disable}
pub use Rattle.mm_memory.specs.declared.instruction.StoreChange.TheVariants.{Enable, Resize, SetChannel, SetKind}
pub use Rattle.mm_memory.specs.declared.tally.Tally.{Tally}
