-- The words of the proofs: what several of them use of other crates, and of the definitions of this one.
pub use Rattle.crossbeam_queue.specs.Passes.{view, IsPassOf}
pub use Rattle.crossbeam_queue.specs.declared.array_queue.Doing.{Doing}
pub use Rattle.crossbeam_queue.specs.declared.array_queue.Slotted.{Slotted}
pub use Rattle.mm_base.proofs.Pairs.{All-front, All-back}
pub use Rattle.mm_base.proofs.RangeSums.{sum_by_range_more}
pub use Rattle.mm_base.proofs.Tests.{cond-eqb_other, cond-eqb_same}
pub use Rattle.mm_base.proofs.Sums.{sum_by_ones, sum_by_zeros, sum_by-map, sum_by-same, sum_by-add, sum_by-le_each}
pub use Rattle.mm_base.proofs.Sums.{sum_by-flat_map, sum_by-map-filter, sum_by-le_one}
pub use Rattle.mm_desk.specs.Machine.{State, step, give, IsState}
pub use Rattle.mm_desk.specs.Orders.{given, last_time, begun, ended, removed, IsOrderOf}
pub use Rattle.mm_desk.specs.Runs.{entry, IsRun, opening_at, replay, IsLegal}
pub use Rattle.mm_desk.specs.declared.entry.Entry.{Entry}
pub use Rattle.mm_desk.specs.declared.event.Event.{Event}
pub use Rattle.mm_desk.specs.declared.event.Event.TheVariants.{Begin, Next, Abort, Delete}
pub use Rattle.mm_desk.specs.declared.fault.Fault.{Fault}
pub use Rattle.mm_desk.specs.declared.held.Held.{Held}
pub use Rattle.mm_desk.specs.declared.reply.Reply.{Reply}
pub use Rattle.mm_dump.specs.Broken.{aborted, unsent_at, IsBrokenOrder}
pub use Rattle.mm_dump.specs.Courses.{Course, worse, worst_of, worst_in, IsWhole, EndedAs, IsCourse, AreCourses}
pub use Rattle.mm_dump.specs.Courses.{failed_by, sent_by, spent_by, calls_at}
pub use Rattle.mm_dump.specs.Dumped.{MayDump, AllKept, AllTaken, HasTaken, HasTried, IsOrderFor, AllSettled, CarriesOut}
pub use Rattle.mm_dump.specs.Dumped.{amount_of, places_of, taken_at, times, used_by, wanted}
pub use Rattle.mm_dump.specs.OrderSteps.{Progress, OrderCarriedOut, course_of, OrderStore, CallsOnce, Deletes, Advances}
pub use Rattle.mm_dump.specs.OrderSteps.{Ends, Retrieves, with_calls, BreaksOff, SentAll, last_of, progress}
pub use Rattle.mm_dump.specs.OrderSteps.{order_store, IsTried}
pub use Rattle.mm_dump.specs.Queue.{queue_view, Knows, AreTakenOnce, TakesNext, Tells}
pub use Rattle.mm_dump.specs.Sending.{Sent, all_sent}
pub use Rattle.mm_dump.specs.Workers.{order_at, has_order, past_of, Worked, IsHired, IsBack, AllWorked, AreReady}
pub use Rattle.mm_dump.specs.Workers.{HasWorked, IsNewPort, Work, calls_of, causes_of, HasAllParts, AreBack}
pub use Rattle.mm_dump.specs.declared.dumper.DumpWorker.{DumpWorker}
pub use Rattle.mm_dump.specs.declared.order.Order.{Order}
pub use Rattle.mm_dump.specs.declared.order.OrderBroken.{OrderBroken}
pub use Rattle.mm_dump.specs.declared.order.OrderBroken.TheVariants.{LinkFailed, NoMemory}
pub use Rattle.mm_dump.specs.declared.queue.QueueView.{QueueView}
pub use Rattle.mm_shared.specs.Rule.{calls_on}
pub use Rattle.mm_shared.specs.Stores.{id_at, states_of, list_at, lists_at, all_ends, end_of, ids_of, names_of}
pub use Rattle.mm_shared.specs.Stores.{AreNew, HaveLegalLogs, stores_in}
pub use Rattle.mm_shared.specs.Views.{PortView, StoresView, with_call, HasLegalLog}
pub use Rattle.mm_shared.specs.declared.label.StoreLabel.{StoreLabel}
pub use Rattle.mm_store.specs.Content.{clock_end, count_up_to, first_in}
pub use Rattle.mm_store.specs.declared.stored.Stored.{Stored}
pub use Rattle.std.proofs.Common.{◌≡◌, ◌≢◌, inl, inr, ℕ, zero, suc, ◌+◌, ◌-◌, ◌<◌, ◌≤◌, List, [], ◌∷◌, ◌++◌, length}
pub use Rattle.std.proofs.Common.{get_or, set, refl, sym, ap, subst, ◌∙◌, arith, Bool, false, cond, map, filter}
pub use Rattle.std.proofs.Common.{length-append, true, take, All, ◌^◌, append_assoc, ◌==◌, Contains, eqb, AllPairs, ◌*◌}
pub use Rattle.std.proofs.Common.{rules, vec_len, vec_capacity, drop}
pub use Rattle.std.proofs.lemmas.Bool.{cases_lt, lt-ltb, le-ltb, eq-eqb, eqb-true, cases_Bool, ltb-true, ne_eqb}
pub use Rattle.std.proofs.lemmas.Bool.Decides.{eqb_tells}
pub use Rattle.std.proofs.lemmas.List.{nil_from_length, append-nil, map-append, get_or_append_left, flat_map_more}
pub use Rattle.std.proofs.lemmas.List.{set-get_or, get_or-map, length-map, take_all, map-id, length-take}
pub use Rattle.std.proofs.lemmas.List.{length-take-le, length-drop, take-append-drop}
pub use Rattle.std.proofs.lemmas.List.Concat.{length-flat_map, flat_map-append}
pub use Rattle.std.proofs.lemmas.List.Elements.{All-nil, All-push, filter-append, All-cons, All-append, All-head}
pub use Rattle.std.proofs.lemmas.List.Elements.{All-tail, All-contains, All-map, All-filter, filter_passes, All-weaker}
pub use Rattle.std.proofs.lemmas.List.Elements.{Contains-get_or, All-more, All-take, All-set}
pub use Rattle.std.proofs.lemmas.List.FromFn.{length-range_with_len}
pub use Rattle.std.proofs.lemmas.List.Sums.{sum_by-cons, sum_by-append, sum_by_push, sum_by-take-le, length-filter}
pub use Rattle.std.proofs.lemmas.List.Sums.{get_or-le-sum_by, sum_by_more}
pub use Rattle.std.proofs.lemmas.Simd.{map-map}
pub use Rattle.std.specs.List.{sum_by, range_with_len, flat_map}
pub use Rattle.std.specs.Prelude.{Option, Some, None, is_some, Ok, Err}
pub use Rattle.std.proofs.lemmas.List.Folds.{flat_map-map, map_fixed}
