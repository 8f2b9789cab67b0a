-- The words that the proofs of this crate share: of std, of the crates below, and of its definitions.
pub use Rattle.std.proofs.Common.{All, Bool, Contains, List, [], add-one, ap, append_assoc, arith, below_more, cond}
pub use Rattle.std.proofs.Common.{drop, eqb, false, filter, get_or, get_or-set_other, get_or-set_same, inl, inr, leb}
pub use Rattle.std.proofs.Common.{length, length-append, length-set, ltb, max, refl, rules, slice_index_or, subst, suc}
pub use Rattle.std.proofs.Common.{sum, sym, take, true, vec_capacity, vec_len, zero, ℕ, ◌++◌, ◌+◌, ◌<◌, ◌↔◌, ◌∙◌, ◌∷◌}
pub use Rattle.std.proofs.Common.{◌≡◌, ◌≢◌, ◌≤◌, ◌⊎◌}
pub use Rattle.std.proofs.lemmas.Bool.{and_right, cases_lt, cases_order, cond_both, eq-eqb, eqb-false, eqb-true, le-ltb}
pub use Rattle.std.proofs.lemmas.Bool.{lt-ltb, ltb-false, ltb-true, ne_eqb, or_parts}
pub use Rattle.std.proofs.lemmas.Bool.Decides.{eqb_tells, nat_tests}
pub use Rattle.std.proofs.lemmas.List.{append-nil, drop_all, get_or-map, get_or_append_left, get_or_past, get_or_push}
pub use Rattle.std.proofs.lemmas.List.{length-drop, length-map, map-append, same_lists, take_all}
pub use Rattle.std.proofs.lemmas.List.Elements.{All-append, All-cons, All-contains, All-contains_itself, All-filter}
pub use Rattle.std.proofs.lemmas.List.Elements.{All-head, All-nil, All-push, All-tail, All-weaker, filter_passes}
pub use Rattle.std.proofs.lemmas.List.Kept.{AllPairs-cons, AllPairs-filter}
pub use Rattle.std.proofs.lemmas.List.Sums.{length-filter, sum_by_more}
pub use Rattle.std.specs.List.{find, flat_map, position_or_len}
pub use Rattle.std.specs.Prelude.{AllPairs, Err, IfSome, IsPermutation, MatchOption, None, Ok, Option, Result, Some}
pub use Rattle.std.specs.Prelude.{bytes_eq, if◌then◌else◌, is_some, not, slice_get, ◌==◌, ◌||◌}
pub use Rattle.mm_base.proofs.Pairs.{All-back, All-front, AllPairs-append, AllPairs-head, AllPairs-tail}
pub use Rattle.mm_store.proofs.ContentLemmas.{count_up_to-kept}
pub use Rattle.mm_store.specs.Content.{IsRising, IsStore, Store, clock_end, count_up_to, delete_up_to, first_in, is_in}
pub use Rattle.mm_store.specs.Content.{kept_after, put, put_full, with_newest}
pub use Rattle.mm_desk.specs.Answers.{Answers}
pub use Rattle.mm_desk.specs.Fates.{after, deleted, found_in, given, given_up, left_out, over, packets_of}
pub use Rattle.mm_desk.specs.Machine.{Balances, IsState, State, answer_of, give, next_of, step}
pub use Rattle.mm_desk.specs.Offers.{AreTaken, IsShuffleOfEvents, IsTaken, Leaves, count_of}
pub use Rattle.mm_desk.specs.Retrievals.{AtEach, IsWithin, oldest_over, overwritten}
pub use Rattle.mm_desk.specs.Runs.{IsLegal, IsRun, entry, replay}
pub use Rattle.mm_desk.specs.Seats.{AreNew, SeatView, new_seat}
pub use Rattle.mm_desk.specs.Shuffles.{AreBelow, IsShuffle, part}
pub use Rattle.mm_desk.specs.Types.{Abort, Begin, Bounded, Circular, Delete, Entry, Event, KeptOver, Kind, Lost, Next}
pub use Rattle.mm_desk.specs.Types.{NoMemory, Offer, Offered, Reply, Retrieval, Returned, SpacePacket, Stored}
