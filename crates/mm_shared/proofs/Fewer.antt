-- Seats through which no call was made have no part in a log.
use Rattle.mm_shared.proofs.Words.{◌≡◌, ⊎_elim, ℕ, ◌-◌, ◌<◌, ◌≤◌, List, [], ◌++◌, length, map, replicate, get_or, refl}
use Rattle.mm_shared.proofs.Words.{◌∙◌, arith, cases_lt, length-append, length-replicate, map-append}
use Rattle.mm_shared.proofs.Words.{get_or_append_left, get_or-append_right, get_or-replicate, Entry, State, IsShuffle}
use Rattle.mm_shared.proofs.Words.{part, none_of, calls_on, lists_at, PortView, HasLegalLog, map-map}
use lib.LanesLaws.{map-replicate}

-- a shuffle of lists and of empty ones is a shuffle of the lists
fewer : (lists : List (List Entry)) (more : ℕ) (log : List Entry) → IsShuffle (lists ++ replicate more []) log
    → IsShuffle lists log
fewer lists more log shuffle = record {
  below = λ i d within.
      let seat = (get_or log i d).seat in
      ⊎_elim (λ under. under) (λ over. absurd (none_of seat log (empty seat over (shuffle.below i d within)) i d within
      refl)) (cases_lt seat (length lists));
  parts = λ seat within. shuffle.parts seat (omega (arith, within, length-append lists (replicate more no_calls)))
      ∙ get_or_append_left lists (replicate more []) [] seat within;
}
  where
    no_calls : List Entry
    no_calls = []

    -- a seat past the lists made no call
    empty : (seat : ℕ) → length lists ≤ seat → seat < length (lists ++ replicate more no_calls) → part seat log ≡ []
    empty seat over inside =
        let under : seat - length lists < more = omega (
          arith,
          inside,
          over,
          length-append lists (replicate more no_calls),
          length-replicate more no_calls,
        ) in
        shuffle.parts seat inside ∙ (get_or-append_right lists (replicate more []) (length lists) seat [] refl over
        ∙ get_or-replicate more _ [] [] under)

-- the same of the calls of workers on a store
pub fewer_lists : (k : ℕ) (workers : List PortView) (more : ℕ) (s t : State)
    → HasLegalLog (map (calls_on k) (map (λ w. w.list) workers ++ replicate more [])) s t
    → HasLegalLog (lists_at k workers) s t
fewer_lists k workers more s t legal = record {
  log = legal.log;
  run = legal.run;
  shuffle = fewer (lists_at k workers) more legal.log (simp (map-append, map-map, map-replicate) at legal.shuffle);
}
