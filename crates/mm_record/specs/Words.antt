-- The words of the crates below in which the definitions of this crate are written, passed on from one place.
pub use Rattle.mm_base.specs.declared.rows.RouteRow.{RouteRow}
pub use Rattle.mm_desk.specs.Machine.{IsState, State}
pub use Rattle.mm_desk.specs.Offers.{AreTaken, IsShuffleOfEvents, Leaves, asked as asked_in, count_of}
pub use Rattle.mm_desk.specs.Runs.{IsRun, opening_at}
pub use Rattle.mm_desk.specs.declared.entry.Entry.{Entry}
pub use Rattle.mm_desk.specs.declared.event.Event.{Event}
pub use Rattle.mm_desk.specs.declared.event.Event.TheVariants.{Offer}
pub use Rattle.mm_desk.specs.declared.fault.Fault.{Fault}
pub use Rattle.mm_desk.specs.declared.held.Held.{Held}
pub use Rattle.mm_desk.specs.Holdings.{AreHeld, Holdings}
pub use Rattle.mm_packet.specs.Packet.{IsTelemetry, SpacePacket}
pub use Rattle.mm_report.specs.declared.cause.Cause.{Cause}
pub use Rattle.mm_report.specs.declared.cause.Cause.TheVariants.{ClockTooLate, Counts, LogMismatch, NoMemory, NotReady}
pub use Rattle.mm_report.specs.declared.cause.TheConstants.{LATEST_START, MAX_SOURCES}
pub use Rattle.mm_shared.specs.Stores.{AreNamed, IsFresh, all_ends, end_of, id_at, ids_of, labels_of, list_at}
pub use Rattle.mm_shared.specs.Stores.{states_of}
pub use Rattle.mm_shared.specs.Views.{Origin, PortView, StoresView, counters_of}
pub use Rattle.mm_shared.specs.declared.label.StoreLabel.{StoreLabel}
pub use Rattle.std.specs.List.{AllZip, list_any}
pub use Rattle.std.specs.Option.{option_copied, option_to_list}
