use Rattle.std.proofs.Common.{◌≡◌, [], ◌∷◌, drop, arith, rules, append_assoc, ap, sym, ◌∙◌}
use Rattle.std.specs.Prelude.{decimal, slice_set}
use Rattle.std.proofs.lemmas.Fmt.{length-decimal-le}
use Rattle.std.proofs.lemmas.List.{drop-set, drop_all}
use Rattle.mm_chart.proofs.table.write_step.Goals as goal

pub write_digits-requires : goal.write_digits-requires
write_digits-requires c =
    let few = length-decimal-le 10 c.from.result (omega arith) (omega (arith, c.from.ensures)) (omega (arith, c.from.ensures)) in
    (omega (arith, few, c.write_number-end.ensures.least), search rules)

pub returns-clause-written : goal.returns-clause-written
returns-clause-written c =
    let last : drop 23 (slice_set c.args.octets.now 23 44) ≡ 44 ∷ [] =
    drop-set c.args.octets.now 23 44 (omega arith) ∙ ap (λ xs. 44 ∷ xs) (drop_all 24 c.args.octets.now (omega arith)) in
    rw (c.write_digits.ensures.written, c.write_number-end.ensures.written, last, c.from.ensures)
    (sym (append_assoc (decimal c.args.step) (44 ∷ decimal c.args.window) (44 ∷ [])))
