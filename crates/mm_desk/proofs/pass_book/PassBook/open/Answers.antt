use Rattle.mm_desk.proofs.Words.{◌≡◌, ℕ, [], ◌∷◌, refl, arith, rules, length-append, All-push}
use Rattle.mm_desk.proofs.pass_book.PassBook.open.Goals as goal

pub loop-preserved : goal.loop-preserved
loop-preserved g c =
    let seats = c.loop.list.items in
    let none = All-push (λ (drawn : ℕ). drawn ≡ 0) seats 0 c.loop.invariant.seats.none refl in
    let count = length-append seats (0 ∷ []) in
    let parts = c.split_off-share.ensures in
    rw c.push_reserved.ensures.items
    (search (arith, rules, none, count, c.loop.invariant, c.push_reserved.ensures, parts, c.loop-test.true))
