-- The words of the crates below in which the definitions of this crate are written, passed on from one place.
pub use Rattle.atomic_table.specs.Seated.{TableId}
pub use Rattle.atomic_table.specs.Table.{Me, State as Table, Step}
pub use Rattle.mm_base.specs.declared.limits.TheConstants.{MAX_STORES}
pub use Rattle.mm_desk.specs.Machine.{IsState, State, step}
pub use Rattle.mm_desk.specs.Runs.{IsRun, entry, opening_at}
pub use Rattle.mm_desk.specs.Shuffles.{AreBelow, IsShuffle, part}
pub use Rattle.mm_desk.specs.declared.desk.TheConstants.{MAX_SEATS}
pub use Rattle.mm_desk.specs.declared.entry.Entry.{Entry}
pub use Rattle.mm_desk.specs.declared.event.Event.{Event, Event as Asked}
pub use Rattle.mm_desk.specs.declared.reply.Reply.{Reply, Reply as Answered}
pub use lib.ListN.{get_elem?}
pub use mathlib.Core.Option.{none, some}
