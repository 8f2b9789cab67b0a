-- The words that the proofs of this crate share: of std, of the crates below, and of its definitions.
pub use Rattle.std.proofs.Common.{All, Bool, Contains, Global, List, Vec, [], add-zero, ap, append_assoc, arith, cond}
pub use Rattle.std.proofs.Common.{drop, false, get_or, inl, inr, length, length-append, nat_lt, not, refl, rules, subst}
pub use Rattle.std.proofs.Common.{suc, sym, take, tests, true, zero, ℕ, ◌&&◌, ◌++◌, ◌+◌, ◌-◌, ◌<◌, ◌||◌, ◌∙◌, ◌∷◌, ◌≡◌}
pub use Rattle.std.proofs.Common.{◌≢◌, ◌≤◌, ◌⊎◌}
pub use Rattle.std.proofs.Math.ListN.{get_or-append, replicate, set}
pub use Rattle.std.proofs.lemmas.Bool.{and_right, cases_lt, cond_both, eqb-true, false≢true}
pub use Rattle.std.proofs.lemmas.Iterator.{YieldsList-from_map, YieldsList-from_slice, items_from_collect}
pub use Rattle.std.proofs.lemmas.Iterator.Search.{position_from_yields_List}
pub use Rattle.std.proofs.lemmas.List.{append-nil, get_or-append_right, get_or-map, get_or-replicate, length-map}
pub use Rattle.std.proofs.lemmas.List.{length_push, nil_from_length, set-get_or, take_more}
pub use Rattle.std.proofs.lemmas.List.Elements.{All-append, All-cons, All-contains, All-contains_itself, All-filter}
pub use Rattle.std.proofs.lemmas.List.Elements.{All-head, All-nil, All-push, All-tail, All-weaker, filter_map-append}
pub use Rattle.std.proofs.lemmas.List.Sums.{count_by-le-length, length-filter, prefix_len-le-length, sum_by-append}
pub use Rattle.std.proofs.lemmas.Option.{get_or_from_slice_get, none-some, same_Some, slice_get-get_or, slice_get_read}
pub use Rattle.std.proofs.lemmas.Option.{slice_get_within}
pub use Rattle.std.specs.List.{cons_option, filter, find, list_any, position, position_or_len}
pub use Rattle.std.specs.Option.{option_map, unwrap_or}
pub use Rattle.std.specs.Prelude.{AllPairs, Err, IfSome, IsPermutation, IsTrue, MatchOption, None, Ok, Option, Some}
pub use Rattle.std.specs.Prelude.{bytes_eq, filter_map, fold, if◌then◌else◌, is_ok, is_some, map, slice_get, sum}
pub use Rattle.std.specs.Prelude.{vec_capacity, ◌==◌}
pub use Rattle.mm_base.proofs.IdFields.{is_id-field, is_id-other, is_id_text_decides, padding}
pub use Rattle.mm_base.specs.Id.{IsIdField, IsIdText, field_of, id_text, is_id_char, is_id_text}
pub use Rattle.mm_base.specs.declared.rows.RouteRow.{RouteRow}
pub use Rattle.mm_control.specs.Routes.{IsInOrder, has_row, is_for, is_to, with_row, without_store}
pub use Rattle.mm_desk.proofs.FateLemmas.{Above, MayGive, at_end, by_calls, continues, gives_held, joined, over-append}
pub use Rattle.mm_desk.proofs.PlaceLemmas.{AreHeld-same_ids, found_id, is_itself, lent_alike, same_id, stands_at_first}
pub use Rattle.mm_desk.proofs.PlaceLemmas.{with_changed-stands}
pub use Rattle.mm_desk.specs.Fates.{BeginsNone, after, deleted, given, given_up, over}
pub use Rattle.mm_desk.specs.Machine.{IsState, State, offer, step}
pub use Rattle.mm_desk.specs.Rest.{resize_fault, rest_fault}
pub use Rattle.mm_desk.specs.Retrievals.{AtEach, overwritten}
pub use Rattle.mm_desk.specs.declared.event.Event.{Event}
pub use Rattle.mm_desk.specs.declared.fault.Fault.{Fault as StateFault}
pub use Rattle.mm_desk.specs.declared.held.Held.{Held}
pub use Rattle.mm_desk.specs.declared.state.Retrieval.{Retrieval}
pub use Rattle.mm_packet.specs.Packet.{SpacePacket}
pub use Rattle.mm_st15.specs.Report.{HasCount}
pub use Rattle.mm_memory.specs.Acting.{Outcome, TakesMemory, act, done_or, refusal_of}
pub use Rattle.mm_memory.specs.Applying.{Applies, AppliesEach, ComesUnlessNoMemory, MayLack, without}
pub use Rattle.mm_memory.specs.Holdings.{AreHeld, HaveOtherIds, Holdings, StandsAt, has_id, opened, state_of, store_of}
pub use Rattle.mm_memory.specs.Holdings.{table_of, with_changed}
pub use Rattle.mm_memory.specs.Instruction.{Parsed}
pub use Rattle.mm_memory.specs.Laws.{ids_of}
pub use Rattle.mm_memory.specs.Lending.{with_state}
pub use Rattle.mm_memory.specs.Naming.{NamesAt}
pub use Rattle.mm_memory.specs.Recording.{after_offer, after_offers, after_record, is_routed, packet_for, tally_over}
pub use Rattle.mm_memory.specs.Reports.{control_at, summary_at}
pub use Rattle.mm_memory.specs.Retrievals.{AtEachTurn, HasState}
pub use Rattle.mm_memory.specs.Routing.{leads_to, packet_along, passed, rows_for}
pub use Rattle.mm_memory.specs.declared.instruction.Action.{Action}
pub use Rattle.mm_memory.specs.declared.instruction.Action.TheVariants.{Change as Changes, Delete}
