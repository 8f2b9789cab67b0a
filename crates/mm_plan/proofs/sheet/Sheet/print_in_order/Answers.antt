use Rattle.std.proofs.Common.{rules}
use Rattle.std.specs.Prelude.{FitsSigned}
use Rattle.std.specs.Int.{w64}
use Rattle.std.proofs.lemmas.Int.{to_z-of_z}
use Rattle.mm_plan.proofs.Prints.{is_printed}
use Rattle.mm_plan.proofs.sheet.Sheet.print_in_order.Goals as goal

pub returns : goal.returns
returns c =
    let sheet = c.args.self.now in
    let fits : FitsSigned w64 sheet.bound = search rules in
    is_printed sheet c.args.cut.now c.args.by_channels.now
    c.new-text.result.items c.push_front.new.text.items c.push_certificate.new.text.items c.push_firsts.new.text.items c.push_end.new.text.items
    c.requires.cut c.requires.by_channels c.new-text.ensures.items
    (rw (c.of-form.ensures, c.firsts.ensures, c.stores.ensures, c.plan.ensures) at c.in_ok-push_front.ensures)
    (rw (to_z-of_z w64 sheet.bound fits) at (rw (c.loss.ensures, c.bound.ensures) at c.in_ok-push_certificate.ensures))
    (rw c.firsts-2.ensures at c.in_ok-push_firsts.ensures)
    c.in_ok-push_end.ensures
