use Rattle.std.proofs.Common.{◌≡◌, ◌==◌, length, take, ap, sym, arith}
use Rattle.std.proofs.lemmas.List.Sums.{position_or_len_is}
use Rattle.mm_base.proofs.id.text_len.Goals as goal

pub returns-then-octet-eq32-clause-text : goal.returns-then-octet-eq32-clause-text
returns-then-octet-eq32-clause-text c =
    ap (λ n. take n c.args.field.now)
    (sym (position_or_len_is (λ x. x == 32) c.args.field.now c.loop-i.i 0 (omega arith) c.loop-i.invariant
    (λ _. grind arith)))

pub returns-clause-text : goal.returns-clause-text
returns-clause-text c =
    let at_end : c.loop-i.i ≡ length c.args.field.now = omega arith in
    ap (λ n. take n c.args.field.now)
    (sym (position_or_len_is (λ x. x == 32) c.args.field.now (length c.args.field.now) 0 (omega arith)
    (rw at_end at c.loop-i.invariant) (λ h. absurd (omega arith))))
