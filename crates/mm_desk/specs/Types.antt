-- The types of what is asked of a store, of what it holds and of what it answers, with their cases.
pub use Rattle.mm_base.specs.declared.kind.Kind.{Kind}
pub use Rattle.mm_base.specs.declared.kind.Kind.TheVariants.{Circular, Bounded}
pub use Rattle.mm_packet.specs.Packet.{SpacePacket}
pub use Rattle.mm_store.specs.declared.put.Put.{Put}
pub use Rattle.mm_store.specs.declared.stored.Stored.{Stored}
pub use Rattle.mm_desk.specs.declared.entry.Entry.{Entry}
pub use Rattle.mm_desk.specs.declared.event.Event.{Event}
pub use Rattle.mm_desk.specs.declared.event.Event.TheVariants.{Offer, Begin, Next, Abort, Delete, Enable, Disable}
pub use Rattle.mm_desk.specs.declared.fault.Fault.{Fault}
pub use Rattle.mm_desk.specs.declared.fault.Fault.TheVariants.{NoMemory, Disabled, Busy, Idle, BadRange, ClockEnd, StorageOn, HoldsMore}
pub use Rattle.mm_desk.specs.declared.reply.Offered.{Offered}
pub use Rattle.mm_desk.specs.declared.reply.Offered.TheVariants.{Kept, KeptOver, Lost}
pub use Rattle.mm_desk.specs.declared.reply.Reply.{Reply}
pub use Rattle.mm_desk.specs.declared.reply.Returned.{Returned}
pub use Rattle.mm_desk.specs.declared.state.Retrieval.{Retrieval}
