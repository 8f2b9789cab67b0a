-- What the proofs of a run are written in: the words and the lemmas of std and of the crates below, and the words of
-- this crate, passed on from one place.
pub use Rattle.mm_carry.specs.Words.{MAX_STORES, SpacePacket, Dumping, IsDumping, IsFlyable, arrivals, limit, place}
pub use Rattle.mm_carry.specs.Words.{row, setup_size, size}
pub use Rattle.mm_carry.specs.Words.{steps, stores, window, FitsAt, Table, amount, Amounts, left, loss, lost, written}
pub use Rattle.mm_carry.specs.Words.{Stored, IsState, State, AreTaken, IsShuffleOfEvents, count_of, IsRun, opening_at}
pub use Rattle.mm_carry.specs.Words.{Entry, Event, Offer, Held, id_at, labels_of, states_of, AreHeld, Holdings, has_id}
pub use Rattle.mm_carry.specs.Words.{store_of, is_clock_late, RecordingContext, offers, recording, recording_by}
pub use Rattle.mm_carry.specs.Words.{given_in, Supply, Course, IsBroken, IsCourse, IsWhole, sent_by, places_of, times}
pub use Rattle.mm_carry.specs.Words.{wanted, Sent, all_sent, Order, IsDumpOf, IsOrderFor, Reported, totals_of, Cause}
pub use Rattle.mm_carry.specs.Words.{LinkFailed}
pub use Rattle.std.proofs.lemmas.Bool.{both_ways, cases_eq, cases_lt, cases_order, cond_both, eq-eqb, eqb-false}
pub use Rattle.std.proofs.lemmas.Bool.{eqb-true, false_from_ne_true, le-ltb, lt-ltb, ltb-false, ltb-true, ne_eqb}
pub use Rattle.std.proofs.lemmas.Bool.{or_parts}
pub use Rattle.std.proofs.lemmas.List.{append-nil, flat_map_more, get_or-map, get_or-take, get_or_append_left}
pub use Rattle.std.proofs.lemmas.List.{length-map, length-take-le, map-append, map_push, nil_from_length, with_items_is}
pub use Rattle.std.proofs.lemmas.List.Elements.{All-cons, All-from_get_or, All-head, All-map, All-more, All-nil}
pub use Rattle.std.proofs.lemmas.List.Elements.{All-tail, All-weaker, filter-append}
pub use Rattle.std.proofs.lemmas.List.Folds.{find_at, flat_map-map, list_any_at}
pub use Rattle.std.proofs.lemmas.List.FromFn.{fill_by_all, get_or-map-range_with_len, get_or-range_with_len}
pub use Rattle.std.proofs.lemmas.List.FromFn.{length-map-range_with_len, length-range_with_len, take-map-range_with_len}
pub use Rattle.std.proofs.lemmas.List.Sorted.{IsPermutation-append_comm, IsPermutation-append_left}
pub use Rattle.std.proofs.lemmas.List.Sorted.{IsPermutation-append_right, IsPermutation-refl, IsPermutation-sym}
pub use Rattle.std.proofs.lemmas.List.Sorted.{IsPermutation-trans, IsPermutation-filter_both}
pub use Rattle.std.proofs.lemmas.List.Sums.{get_or-le-sum_by, passes_at_first, position_or_len_is, prefix_len-le-length}
pub use Rattle.std.proofs.lemmas.List.Sums.{sum_by-append, sum_by-cons, sum_by-le}
pub use Rattle.std.proofs.lemmas.Option.{same_Some, slice_get-get_or, IfSome_then, slice_get_within}
pub use Rattle.std.proofs.lemmas.Slice.Eq.{bytes_eq-Decides}
pub use Rattle.std.specs.List.{AllZip, count_by, list_any, position_or_len, range_with_len, sum_by}
pub use Rattle.std.specs.Prelude.{IfNone, IfSome, IsPermutation, IsTrue, None, Ok, Option, Result, Some, bytes_eq}
pub use Rattle.std.specs.Prelude.{filter, flat_map, is_some, nat_lt, not, slice_get, slice_index, slice_index_or}
pub use Rattle.std.specs.Prelude.{vec_capacity, ◌&&◌, ◌==◌, ◌||◌}
pub use Rattle.mm_base.proofs.Elements.{All-unmapped}
pub use Rattle.mm_base.proofs.Pairs.{All-back, All-front, AllPairs-map, AllPairs-append}
pub use Rattle.mm_base.proofs.RangeSums.{sum_by_range-le, sum_by_range_more, sum_by_range_one, sum_by_range_same}
pub use Rattle.mm_base.proofs.RangeSums.{sum_by_range_zeros}
pub use Rattle.mm_base.proofs.Ranges.{All-filter-range_with_len, All-range_with_len, AllPairs-filter-range_with_len}
pub use Rattle.mm_base.proofs.Ranges.{range_with_len_more, range_with_len_next}
pub use Rattle.mm_base.proofs.Sums.{sum_by-add, sum_by-filter, sum_by-map, sum_by-map-filter, sum_by-same, sum_by-swap}
pub use Rattle.mm_base.proofs.Sums.{sum_by_ones}
pub use Rattle.mm_base.proofs.Tests.{cond-eqb_other, cond-eqb_same}
pub use Rattle.mm_base.specs.declared.limits.TheConstants.{MAX_STEPS}
pub use Rattle.mm_base.specs.declared.rows.StoreRow.{StoreRow}
pub use Rattle.mm_problem.specs.Dumping.{no_row}
pub use Rattle.mm_plan.proofs.Flown.{left_flown, lost_flown, written_flown}
pub use Rattle.mm_plan.proofs.Steps.{left_next, left_start, left_step}
pub use Rattle.mm_plan.specs.Fit.{in_step}
pub use Rattle.mm_plan.specs.Volumes.{store_loss, first_loss}
pub use Rattle.mm_store.specs.Content.{IsRising, Store, clock_end, put}
pub use Rattle.mm_desk.proofs.Leaving.{offers_leave}
pub use Rattle.mm_desk.proofs.Logs.{count_of_shuffle, given_oldest, order_dumps}
pub use Rattle.mm_desk.proofs.LossLemmas.{give_later, loses_new, loses_oldest}
pub use Rattle.mm_desk.proofs.RetrievalLemmas.{is_ordered}
pub use Rattle.mm_desk.specs.Laws.{HasTimes, ReplaysKeepStates}
pub use Rattle.mm_desk.specs.Machine.{offer, step}
pub use Rattle.mm_desk.specs.Offers.{IsTaken, Leaves, asked}
pub use Rattle.mm_desk.specs.Runs.{IsLegal, blank, replay}
pub use Rattle.mm_desk.specs.Shuffles.{AreBelow, part}
pub use Rattle.mm_desk.specs.declared.fault.Fault.{Fault}
pub use Rattle.mm_shared.specs.Stores.{stores_in}
pub use Rattle.mm_control.specs.Routing.{is_routed}
pub use Rattle.mm_record.proofs.Memories.{held_as, named_of}
pub use Rattle.mm_record.proofs.Supplying.{all_stay, length-supplies, zip_long}
pub use Rattle.mm_record.proofs.Taking.{filter_fewer, shuffled, timed_takes}
pub use Rattle.mm_record.specs.Causes.{is_late}
pub use Rattle.mm_shared.specs.Views.{counters_of}
pub use Rattle.mm_record.specs.Steps.{TakesAll, RecorderRun, StoppedEarly, IsRecorderRun, HasLegalOffers, Records}
pub use Rattle.mm_record.specs.Supplies.{supplies}
pub use Rattle.mm_dump.specs.Courses.{EndedAs, failed_by, worse, worst_of}
pub use Rattle.mm_dump.specs.Dumped.{HasTried, MayDump}
pub use Rattle.mm_dump.specs.Laws.{BrokenOrdersChangeNothing}
pub use Rattle.mm_dump.specs.declared.order.OrderBroken.{OrderBroken}
pub use Rattle.mm_report.specs.declared.counts.StepCounts.{StepCounts}
pub use Rattle.mm_carry.specs.AsPlanned.{AsPlanned, AtEach, IsReady}
pub use Rattle.mm_carry.specs.Course.{AreWithinLimits, IsReportedStep, MayReport, given_to, orders_at}
pub use Rattle.mm_carry.specs.Ending.{HasEnded, HasRun, IsHaltedIn, IsRefusal, IsStopped, run_start_of}
pub use Rattle.mm_carry.specs.Halts.{AreFirstOffers, AtEachStore, IsByOneLog}
pub use Rattle.mm_carry.specs.Laws.{IsRunOf, StepRunsKeepStores}
pub use Rattle.mm_carry.specs.Numbers.{AreByCounters, AreCounters, AreStepCounts, counted, counts_from, orders_of}
pub use Rattle.mm_carry.specs.Numbers.{planned_counts, report_of, row_from, rows_by_counters, rows_of, state_by}
pub use Rattle.mm_carry.specs.Places.{AreAllPlaces, AreApart, ArePlaces, IsPlaceOf, StandWithin}
pub use Rattle.mm_carry.specs.Readiness.{AllMeet, MayBegin, NoneUnknown, RunStart, Stops, is_unknown, meets, meets_at}
pub use Rattle.mm_carry.specs.Readiness.{run_start}
pub use Rattle.mm_carry.specs.RunInput.{RunInput, as_came, came, offered, place_in_memory, recording_in, step_of}
pub use Rattle.mm_carry.specs.RunInput.{run_input, step_orders, store_state}
pub use Rattle.mm_carry.specs.RunState.{InRun, RunState, state_of, with_supplies}
pub use Rattle.mm_carry.specs.Step.{AreOrders, AreReady, IsCauseIn, IsStep, IsWholeStep, KeepsRest, MayCarry}
pub use Rattle.mm_carry.specs.Step.{NeverRefused, StepStopped, cause_of, orders_after, stop_for}
pub use Rattle.mm_carry.specs.StepRuns.{AreBy, AreTimed, IsBy, IsStepRun}
pub use Rattle.mm_carry.specs.Steps.{AreStepRuns, LinksSent, SourcesGave, StepsDone, sent_amounts, sent_in}
pub use Rattle.mm_carry.specs.Steps.{taken_amounts}
pub use Rattle.mm_carry.specs.declared.course.RunContext.{RunContext}
pub use Rattle.mm_carry.specs.declared.step.Stop.{Stop}
pub use Rattle.std.proofs.Common.{◌≡◌, ◌≢◌, ◌⊎◌, inl, inr, ℕ, zero, suc, ◌+◌, ◌-◌, ◌<◌, ◌≤◌, List, [], ◌∷◌, ◌++◌}
pub use Rattle.std.proofs.Common.{length, get_or, refl, sym, ap, subst, ◌∙◌, arith, append_assoc, min, map, take}
pub use Rattle.std.proofs.Common.{add-one, ◌*◌, ◌^◌, length-append, cond, eqb, All, ltb, leb, Contains, Bool, max, true}
pub use Rattle.std.proofs.Common.{false, vec_len}
pub use Rattle.mm_shared.specs.declared.counters.StoreCounters.{StoreCounters}
pub use Rattle.mm_shared.proofs.Lists.{map_same}
pub use Rattle.mm_dump.specs.Broken.{aborted, IsBrokenOrder}
pub use Rattle.mm_carry.specs.Accounts.{packet_in, packets_in, packets_offered, over_steps, AreAskedIn, HaveLeft}
pub use Rattle.mm_carry.specs.Accounts.{IsAccounted}
pub use Rattle.mm_desk.specs.Losses.{IsOlder, taken_out}
pub use Rattle.mm_desk.specs.declared.reply.Reply.{Reply}
pub use Rattle.mm_desk.proofs.FateLemmas.{conserved, joined, over-append}
