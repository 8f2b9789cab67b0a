use Rattle.std.proofs.Common.{rules, ◌∙◌}
use Rattle.std.specs.Prelude.{FitsSigned}
use Rattle.std.specs.Int.{w64}
use Rattle.std.proofs.lemmas.Int.{to_z-of_z}
use Rattle.mm_plan.proofs.Prints.{printed_part, ended_first}
use Rattle.mm_plan.proofs.print.push_part.Goals as goal

pub returns : goal.returns
returns c =
    let part = c.args.part.now in
    let fits : FitsSigned w64 part.bound = search rules in
    printed_part c.args.text.now.items c.push_numbered.new.text.items c.push_certificate.new.text.items c.args.number
    part
    (c.in_ok-push_numbered.ensures ∙ ended_first c.args.text.now.items c.args.number)
    (rw (to_z-of_z w64 part.bound fits)
    at (rw (c.loss.ensures, c.cut.ensures, c.by_channels.ensures, c.bound.ensures) at c.in_ok-push_certificate.ensures))
