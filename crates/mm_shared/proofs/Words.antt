-- The words that the lemmas and answers of this crate share.
pub use Rattle.atomic_table.proofs.Lists.{at_index, at_set, exchanged, set_else}
pub use Rattle.atomic_table.specs.Table.{Act, Allows, Final, Joins, Seen, Splits, gives, homes_after, keeps, opening}
pub use Rattle.atomic_table.specs.Table.{rest, step as step_of, stepped, takes}
pub use Rattle.mm_desk.proofs.Lone.{lone_log, none_of}
pub use Rattle.mm_desk.specs.Runs.{blank, replay}
pub use Rattle.mm_desk.specs.declared.event.Event.{Event}
pub use Rattle.mm_desk.specs.declared.event.Event.TheVariants.{Abort, Begin, Delete, Disable, Enable, Next, Offer}
pub use Rattle.mm_desk.specs.declared.held.Held.{Held}
pub use Rattle.mm_desk.specs.declared.reply.Reply.{Reply}
pub use Rattle.mm_shared.specs.Rule.{Course, Each, Fits, IsCourse, IsKept, Keeps, Owns, Stands, all_seats, calls_on}
pub use Rattle.mm_shared.specs.Rule.{held_by, held_of, knows}
pub use Rattle.mm_shared.specs.Steps.{AreAll, HasCalled, IsAsTaken, IsAtRest, IsSettled, IsTakenByAll, Seated, at_rest}
pub use Rattle.mm_shared.specs.Steps.{called, first_of, joined, lists_with, others_of, tried}
pub use Rattle.mm_shared.specs.Stores.{AreNamed, AreOpen, AreWorkers, IsFresh, all_ends, end_of, held_stores, id_at}
pub use Rattle.mm_shared.specs.Stores.{ids_of, label_of, labels_of, lists_at, names_of, states_of, stores_in}
pub use Rattle.mm_shared.specs.Views.{HasLegalLog, PortView, counters_of, ports_after}
pub use Rattle.mm_shared.specs.Words.{AreBelow, Entry, IsRun, IsShuffle, IsState, MAX_SEATS, State, Table, entry}
pub use Rattle.mm_shared.specs.Words.{get_elem?, none, opening_at, part, some}
pub use Rattle.mm_shared.specs.declared.label.StoreLabel.{StoreLabel}
pub use Rattle.mm_shared.specs.declared.rule.Knows.{Knows}
pub use Rattle.std.proofs.Common.{Bool, Global, IfNone, IfSome, IsTrue, List, None, Option, Some, Vec, [], ap, arith}
pub use Rattle.std.proofs.Common.{bytes_eq, drop, eqb, false, filter, get_or, inl, inr, length, map, refl, replicate}
pub use Rattle.std.proofs.Common.{rules, set, slice_index_or, subst, suc, sym, take, true, vec_len, zero, ℕ, ⊎_elim}
pub use Rattle.std.proofs.Common.{◌++◌, ◌+◌, ◌-◌, ◌<◌, ◌==◌, ◌∙◌, ◌∷◌, ◌≡◌, ◌≢◌, ◌≤◌, ◌⊎◌}
pub use Rattle.std.proofs.lemmas.Bool.{cases_lt, cases_order, eq-eqb, ne_eqb}
pub use Rattle.std.proofs.lemmas.Grind.{common_steps, get_or_after_one}
pub use Rattle.std.proofs.lemmas.List.{append-nil, get_or-append_right, get_or-map, get_or-replicate, get_or-set_other}
pub use Rattle.std.proofs.lemmas.List.{get_or-set_same, get_or_append_left, get_or_default, get_or_past, length-append}
pub use Rattle.std.proofs.lemmas.List.{length-drop, length-map, length-replicate, length-set, map-append, set-get_or}
pub use Rattle.std.proofs.lemmas.List.{take_more}
pub use Rattle.std.proofs.lemmas.List.Elements.{All-head, All-map, All-nil, All-push, All-replicate, All-tail}
pub use Rattle.std.proofs.lemmas.List.Elements.{filter-append}
pub use Rattle.std.specs.Prelude.{All, Ok, if◌then◌else◌, vec_capacity}
pub use Rattle.std.specs.Slots.{slots_counts, slots_filled, slots_items, slots_len}
pub use mathlib.Core.Logic.{dite}
pub use mathlib.Core.Option.{some-injective, some-ne-none}
pub use native.Mathlib.Decide.{ℕ_discrete}
pub use Rattle.std.proofs.lemmas.Simd.{map-map}
