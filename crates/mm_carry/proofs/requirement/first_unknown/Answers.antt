use Rattle.mm_carry.proofs.Words.{All-more, Held, is_unknown, ◌≡◌, false, sym, subst, ◌∙◌, arith}
use Rattle.mm_carry.proofs.requirement.first_unknown.Goals as goal

pub loop-held-preserved : goal.loop-held-preserved
loop-held-preserved c =
    let known = λ (h : Held). is_unknown c.args.problem.now h ≡ false in
    let here : is_unknown c.args.problem.now c.held-item.result ≡ false = sym c.is_unknown.ensures
    ∙ c.if-is_unknown.false in
    All-more known c.args.stores.now c.loop-held.held-index c.held-item.result (omega arith) c.loop-held.invariant
    (subst known c.held-item.is here)
