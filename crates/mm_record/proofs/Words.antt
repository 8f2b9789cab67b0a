-- The words of this crate's proofs, from the modules that state them.
pub use Rattle.mm_base.proofs.Elements.{All-unmapped}
pub use Rattle.mm_base.proofs.Pairs.{All-front, AllPairs-map}
pub use Rattle.mm_desk.specs.Machine.{after_put, answer_of, offer, step}
pub use Rattle.mm_desk.specs.Offers.{IsTaken}
pub use Rattle.mm_desk.specs.Runs.{IsLegal, blank, entry}
pub use Rattle.mm_desk.specs.Shuffles.{AreBelow, IsShuffle, part}
pub use Rattle.mm_desk.specs.declared.fault.Fault.TheVariants.{NoMemory}
pub use Rattle.mm_desk.specs.declared.reply.Returned.{Returned}
pub use Rattle.mm_desk.specs.Holdings.{HaveOtherIds}
pub use Rattle.mm_control.specs.Routing.{is_routed}
pub use Rattle.mm_record.specs.Causes.{cause_before, cause_by, cause_in, is_clock_late, is_late, is_ready}
pub use Rattle.mm_record.specs.MemorySteps.{AreRows, IsRecorded, WasEnded, came, recording_of, store_at, told_of}
pub use Rattle.mm_record.specs.MemorySteps.{held_by}
pub use Rattle.mm_record.specs.Offering.{IsReason, OfferedUpTo, OfferedWhole, Offers, asked, offer_at, offers_by}
pub use Rattle.mm_record.specs.Offering.{offers_of, step_of}
pub use Rattle.mm_record.specs.Recorded.{RecordingContext, offers}
pub use Rattle.mm_record.specs.Recorders.{EachHasOffered, HasOffered, HasOfferedUntil, HaveOffered}
pub use Rattle.mm_record.specs.Steps.{AllHaveLegalOffers, AllRecorded, HasLegalOffers, IsOpen, IsRecorderRun}
pub use Rattle.mm_record.specs.Steps.{IsRefusedWith, IsWithinLimits, RecorderRun, Records, StoreRefused, TakesAll}
pub use Rattle.mm_record.specs.Steps.{given_in, worse_of, worst_of}
pub use Rattle.mm_record.specs.Supplies.{Gave, Supply, WhateverComes, supplies}
pub use Rattle.mm_record.specs.Words.{AllZip, AreHeld, AreNamed, AreTaken, Entry, Event, Fault, Held, Holdings, IsFresh}
pub use Rattle.mm_record.specs.Words.{IsRun, IsShuffleOfEvents, IsState, Leaves, Offer, Origin, PortView, SpacePacket}
pub use Rattle.mm_record.specs.Words.{State, all_ends, asked_in, count_of, counters_of, end_of, id_at, labels_of}
pub use Rattle.mm_record.specs.Words.{list_any, list_at, opening_at, states_of}
pub use Rattle.mm_shared.proofs.Lists.{map_same}
pub use Rattle.mm_shared.specs.Stores.{HaveLegalLogs, lists_at, stores_in}
pub use Rattle.mm_shared.specs.Views.{with_call}
pub use Rattle.mm_shared.specs.declared.counters.StoreCounters.{StoreCounters}
pub use Rattle.std.proofs.Common.{All, Bool, Err, IfNone, IfSome, List, None, Ok, Option, Result, Some, [], ap}
pub use Rattle.std.proofs.Common.{append_assoc, arith, bytes_eq, cond, drop, false, filter, get_or, inl, inr, length}
pub use Rattle.std.proofs.Common.{length-append, ltb, map, max, not, refl, rules, subst, suc, sym, take, true}
pub use Rattle.std.proofs.Common.{vec_capacity, vec_len, ℕ, ◌*◌, ◌++◌, ◌+◌, ◌-◌, ◌<◌, ◌==◌, ◌^◌, ◌||◌, ◌∙◌, ◌∷◌, ◌≡◌}
pub use Rattle.std.proofs.Common.{◌≢◌, ◌≤◌, ◌⊎◌}
pub use Rattle.std.proofs.lemmas.Bool.{and_parts, both_ways, cases_eq, cond_both, eq-eqb, false_from_ne_true, ltb-false}
pub use Rattle.std.proofs.lemmas.Bool.{not-false, or_parts}
pub use Rattle.std.proofs.lemmas.Bool.Decides.{nat_tests}
pub use Rattle.std.proofs.lemmas.Grind.{common_steps}
pub use Rattle.std.proofs.lemmas.List.{append-nil, drop_at, get_or-map, length-map, map-append, map_more}
pub use Rattle.std.proofs.lemmas.List.{nil_from_length, with_items_is}
pub use Rattle.std.proofs.lemmas.List.Elements.{All-cons, All-contains_itself, All-filter, All-head, All-map, All-more}
pub use Rattle.std.proofs.lemmas.List.Elements.{All-nil, All-tail, filter-append}
pub use Rattle.std.proofs.lemmas.List.Sums.{fails_before_first, sum_by-le}
pub use Rattle.std.proofs.lemmas.Option.{IfSome_then, MatchOption-at_none, slice_get_cases}
pub use Rattle.std.proofs.lemmas.Simd.{map-map}
pub use Rattle.std.specs.List.{AllPairs, Contains, find, position_or_len}
pub use Rattle.std.specs.Prelude.{Any, is_ok}
pub use Rattle.mm_shared.proofs.Opening.{same_many, state_at, ids_open}
