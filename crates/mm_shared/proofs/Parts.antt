-- The parts of a log with one entry more, and the calls on each store in a list with one call more.
use Rattle.mm_shared.proofs.Words.{◌≡◌, ◌≢◌, ℕ, zero, suc, ◌+◌, ◌<◌, ◌==◌, List, [], ◌∷◌, ◌++◌, length, get_or, refl}
use Rattle.mm_shared.proofs.Words.{sym, ap, ◌∙◌, arith, eq-eqb, ne_eqb, append-nil, Entry, part, calls_on}
use Rattle.mm_shared.proofs.Words.{filter-append, lists_with}
use Rattle.mm_shared.proofs.CallsOn.{call_here, call_there}

-- the entry is the last of its seat's part
part-mine : (seat : ℕ) (log : List Entry) (e : Entry) → e.seat ≡ seat
    → part seat (log ++ e ∷ []) ≡ part seat log ++ e ∷ []
part-mine seat log e mine = filter-append (λ (d : Entry). d.seat == seat) log (e ∷ [])
    ∙ rw (eq-eqb e.seat seat mine) refl

-- the parts of other seats stay
pub part-other : (seat : ℕ) (log : List Entry) (e : Entry) → e.seat ≢ seat → part seat (log ++ e ∷ []) ≡ part seat log
part-other seat log e other = filter-append (λ (d : Entry). d.seat == seat) log (e ∷ [])
    ∙ rw (ne_eqb e.seat seat other) (append-nil (part seat log))

-- there are as many lists as before
pub length-lists_with : {A : Type 0} (call : A) (lists : List (List A)) → length (lists_with call lists) ≡ length lists
length-lists_with call [] = refl
length-lists_with call (list ∷ lists) = refl

module _ (i : ℕ) (e : Entry) where
  -- the lists with one call more are the parts of a log with its entry
  pub parts_with : (log : List Entry) (lists : List (List (ℕ × Entry)))
      → ((n : ℕ) → n < length lists → part (e.seat + n) log ≡ calls_on i (get_or lists n []))
      → (n : ℕ) → n < length (lists_with (i, e) lists) → part (e.seat + n) (log ++ e ∷ []) ≡ calls_on i
      (get_or (lists_with (i, e) lists) n [])
  parts_with log [] parts n within = absurd (omega arith)
  parts_with log (list ∷ lists) parts zero within =
      part-mine (e.seat + 0) log e (omega arith) ∙ (ap (λ (es : List Entry). es ++ e ∷ []) (parts 0 within)
      ∙ sym (call_here i list i e refl))
  parts_with log (list ∷ lists) parts (suc n) within = part-other (e.seat + suc n) log e (λ same. absurd (omega arith))
      ∙ parts (suc n) within

  -- the calls on another store stay
  pub others_with : (j n : ℕ) (lists : List (List (ℕ × Entry))) → j ≢ i
      → calls_on j (get_or (lists_with (i, e) lists) n []) ≡ calls_on j (get_or lists n [])
  others_with j n [] other = refl
  others_with j zero (list ∷ lists) other = call_there j list i e (λ same. other (sym same))
  others_with j (suc n) (list ∷ lists) other = refl
