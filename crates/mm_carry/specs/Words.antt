-- What the definitions of a run are written in: the words of the crates below, passed on from one place.
pub use Rattle.mm_base.specs.declared.limits.TheConstants.{MAX_STORES}
pub use Rattle.mm_packet.specs.Packet.{SpacePacket}
pub use Rattle.mm_problem.specs.Dumping.{Dumping, IsDumping, IsFlyable, arrivals, limit, place, row, setup_size, size}
pub use Rattle.mm_problem.specs.Dumping.{start, steps, stores, window}
pub use Rattle.mm_plan.specs.Fit.{Fits, FitsAt, IsFirstMisfit}
pub use Rattle.mm_plan.specs.Table.{HasShape, Table, amount}
pub use Rattle.mm_plan.specs.Volumes.{Amounts, left, loss, lost, written}
pub use Rattle.mm_store.specs.declared.stored.Stored.{Stored}
pub use Rattle.mm_desk.specs.Machine.{IsState, State}
pub use Rattle.mm_desk.specs.Offers.{AreTaken, IsShuffleOfEvents, count_of}
pub use Rattle.mm_desk.specs.Runs.{IsRun, opening_at}
pub use Rattle.mm_desk.specs.declared.entry.Entry.{Entry}
pub use Rattle.mm_desk.specs.declared.event.Event.{Event}
pub use Rattle.mm_desk.specs.declared.event.Event.TheVariants.{Offer}
pub use Rattle.mm_desk.specs.declared.held.Held.{Held}
pub use Rattle.mm_shared.specs.Stores.{AreNamed, id_at, labels_of, states_of}
pub use Rattle.mm_desk.specs.Holdings.{AreHeld, Holdings, has_id, store_of}
pub use Rattle.mm_record.specs.Causes.{cause_in, is_clock_late, is_ready}
pub use Rattle.mm_record.specs.Recorded.{RecordingContext, offers, recording, recording_by}
pub use Rattle.mm_record.specs.Steps.{AllRecorded, AreFew, Records, given_in}
pub use Rattle.mm_record.specs.Supplies.{Supply, WhateverComes}
pub use Rattle.mm_dump.specs.Courses.{Course, IsBroken, IsCourse, IsWhole, sent_by}
pub use Rattle.mm_dump.specs.Dumped.{AllSettled, IsDumpOf, IsOrderFor, amount_of, places_of, times, wanted}
pub use Rattle.mm_dump.specs.Sending.{Sent, all_sent}
pub use Rattle.mm_dump.specs.declared.order.Order.{Order}
pub use Rattle.mm_report.specs.Report.{Reported, totals_of}
pub use Rattle.mm_report.specs.declared.cause.Cause.{Cause}
pub use Rattle.mm_report.specs.declared.cause.Cause.TheVariants.{ChannelDiffers, ClockTooLate, Counts, LinkFailed}
pub use Rattle.mm_report.specs.declared.cause.Cause.TheVariants.{LogMismatch, NoMemory, NotFlyable, NotReady}
pub use Rattle.mm_report.specs.declared.cause.Cause.TheVariants.{OpeningDiffers, PlanDoesNotFit, PlanShape, SizeDiffers}
