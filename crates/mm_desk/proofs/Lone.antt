-- A desk at which one seat alone made calls.
use Rattle.mm_desk.proofs.Words.{◌≡◌, ◌≢◌, inl, inr, ℕ, ◌<◌, ◌≤◌, List, [], ◌∷◌, length, get_or, All, refl, sym, ap}
use Rattle.mm_desk.proofs.Words.{◌∙◌, arith, slice_index_or, eq-eqb, cases_lt, eqb_tells, get_or_past, All-nil}
use Rattle.mm_desk.proofs.Words.{All-cons, All-head, All-tail, AreBelow, IsShuffle, part}
use Rattle.mm_desk.specs.declared.entry.Entry.{Entry}

-- a seat whose part is empty made no entry
pub none_of : (seat : ℕ) (log : List Entry) → part seat log ≡ [] → All (λ e. e.seat ≢ seat) log
none_of seat [] empty = All-nil (λ (e : Entry). e.seat ≢ seat)
none_of seat (e ∷ log) empty = elim (eqb_tells e.seat seat) [
  | inl mine ↦ let some = rw mine.0 at empty in absurd (cc some)
  | inr other ↦ All-cons (λ (e : Entry). e.seat ≢ seat) e log other.1 (none_of seat log (rw other.0 at empty))
]

-- a log of one seat alone is its part
all_of : (seat : ℕ) (log : List Entry) → All (λ e. e.seat ≡ seat) log → part seat log ≡ log
all_of seat [] all = refl
all_of seat (e ∷ log) all =
    rw (eq-eqb e.seat seat (All-head (λ (e : Entry). e.seat ≡ seat) e log all))
    (ap (λ (es : List Entry). e ∷ es) (all_of seat log (All-tail (λ (e : Entry). e.seat ≡ seat) e log all)))

-- where that seat is past all others the log is empty
none_past : (seats seat : ℕ) (log : List Entry) → AreBelow seats log → All (λ e. e.seat ≡ seat) log → seats ≤ seat
    → log ≡ []
none_past seats seat [] below all past = refl
none_past seats seat (e ∷ log) below all past = absurd (omega (arith, below 0 e (omega arith), all 0 e (omega arith)))

-- the log is the list of the one seat that made calls
pub lone_log : (lists : List (List Entry)) (log : List Entry) (seat : ℕ) → IsShuffle lists log
    → ((other : ℕ) → other < length lists → other ≢ seat → slice_index_or lists other [] ≡ [])
    → log ≡ slice_index_or lists seat []
lone_log lists log seat shuffle empty =
    let all : All (λ e. e.seat ≡ seat) log =
    λ i d within. elim (eqb_tells (get_or log i d).seat seat) [
      | inl mine ↦ mine.1
      | inr other ↦
          let seated = shuffle.below i d within in
          let none = none_of (get_or log i d).seat log
          (shuffle.parts (get_or log i d).seat seated ∙ empty (get_or log i d).seat seated other.1) in
          absurd (none i d within refl)
    ] in
    elim (cases_lt seat (length lists)) [
      | inl within ↦ sym (all_of seat log all) ∙ shuffle.parts seat within
      | inr past ↦ none_past (length lists) seat log shuffle.below all past ∙ sym (get_or_past lists seat [] past)
    ]
