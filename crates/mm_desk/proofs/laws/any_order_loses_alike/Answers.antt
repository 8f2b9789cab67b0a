use Rattle.mm_desk.proofs.Words.{sym, ◌∙◌}
use Rattle.mm_desk.proofs.Leaving.{offers_leave}
use Rattle.mm_desk.proofs.laws.any_order_loses_alike.Goals as goal

pub returns-clause-leaves : goal.returns-clause-leaves
returns-clause-leaves c = offers_leave

pub returns-clause-alike : goal.returns-clause-alike
returns-clause-alike c = λ s t u lists first second within room run shuffle taken again other_shuffle other_taken.
    let one = offers_leave s t lists first within room run shuffle taken in
    let two = offers_leave s u lists second within room again other_shuffle other_taken in
    (one.volume ∙ sym two.volume, one.lost ∙ sym two.lost)
