use Rattle.mm_shared.proofs.Words.{◌≡◌, ℕ, List, [], refl, ap, ◌∙◌, arith, Entry, calls_on, names_of, All-replicate}
use Rattle.mm_shared.proofs.Words.{MAX_SEATS}
use Rattle.mm_shared.proofs.Opening.{unchanged}
use Rattle.mm_shared.proofs.stores.close_all.Goals as goal

pub returns-clause-stores : goal.returns-clause-stores
returns-clause-stores c =
    let it = c.args.opened in
    let kept = c.requires.rest.kept in
    unchanged it.labels.items it.rest.of.states _ kept.states
    (c.close.ensures.labels ∙ ap names_of c.deref.ensures.value)
    (λ k within.
    c.close.ensures.untouched k (omega (arith, within, kept.many))
    (rw c.requires.rest.all (All-replicate (λ (calls : List (ℕ × Entry)). calls_on k calls ≡ []) MAX_SEATS [] refl)))
