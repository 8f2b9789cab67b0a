-- The part of a seat in what is left of a log.
use Rattle.mm_desk.proofs.Words.{◌≡◌, ◌↔◌, ℕ, ◌≤◌, true, eqb, List, length, drop, sym, ap, ◌∙◌, arith, eq-eqb, eqb-true}
use Rattle.mm_desk.proofs.Words.{drop_all, length-drop, part}
use Rattle.mm_desk.specs.declared.entry.Entry.{Entry}

-- at the end of a log no entry is left, so a list is the seat's part exactly if all its entries were met
pub all_met : (seat : ℕ) (log list : List Entry) (i met : ℕ) → length log ≤ i → met ≤ length list
    → (part seat (drop i log) ≡ drop met list) ↔ (part seat log ≡ list)
    → (eqb met (length list) ≡ true) ↔ (part seat log ≡ list)
all_met seat log list i met past within left = (
  λ all. left.0 (ap (part seat) (drop_all i log past)
      ∙ sym (drop_all met list (omega (arith, eqb-true met (length list) all)))),
  λ same. eq-eqb met (length list)
      (omega (arith, length-drop met list, ap length (sym (left.1 same) ∙ ap (part seat) (drop_all i log past)))),
)
