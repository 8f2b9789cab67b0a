use Rattle.std.proofs.Common.{◌≡◌, ◌+◌, ◌<◌, List, ℕ, ◌∷◌, ◌++◌, length, get_or, drop, sym, ap, ap₂, ◌∙◌, add-one}
use Rattle.std.proofs.Common.{take-append-drop, drop-cons, drop_of_length-le}
use Rattle.mm_blocks.specs.Check.{remainder_from}
use Rattle.mm_blocks.proofs.CheckLemmas.{remainder_from-nil}
use Rattle.mm_blocks.proofs.check.after.Goals as goal

pub eights-preserved : goal.eights-preserved
eights-preserved c =
    let parts = c.in-Some.ensures.cases in
    let whole : c.in-Some.eight.now ++ c.in-Some.more.now ≡ c.eights.rest.now =
    ap₂ (λ (x y : List ℕ). x ++ y) parts.0 parts.1 ∙ take-append-drop 8 c.eights.rest.now in
    c.after_eight-register.ensures c.in-Some.more.now ∙ ap (remainder_from c.eights.register) whole ∙ c.eights.invariant

pub loop-octet-preserved : goal.loop-octet-preserved
loop-octet-preserved c =
    let i = c.loop-octet.octet-index in
    let items = c.eights.rest.now in
    let within : i < length items = c.loop-octet-test.true in
    let front : drop i items ≡ get_or items i 0 ∷ drop (i + 1) items = rw (add-one, drop-cons items i 0) in
    c.after_one-register.ensures (drop (i + 1) items) ∙ ap (remainder_from c.loop-octet.register) (sym front)
    ∙ c.loop-octet.invariant

pub returns : goal.returns
returns c =
    sym (remainder_from-nil c.loop-octet.register)
    ∙ ap (remainder_from c.loop-octet.register) (sym (drop_of_length-le c.eights.rest.now c.loop-octet-test.false))
    ∙ c.loop-octet.invariant
