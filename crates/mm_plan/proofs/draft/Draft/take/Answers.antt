use Rattle.std.proofs.Common.{◌≡◌, sym, ◌∙◌}
use Rattle.mm_plan.specs.Seen.{seen}
use Rattle.mm_plan.proofs.Rows.{refused_line}
use Rattle.mm_plan.proofs.draft.Draft.take.Goals as goal

pub returns-then-not-may_add : goal.returns-then-not-may_add
returns-then-not-may_add c =
    let same : c.take_dump.new.self ≡ c.args.self.now = rw c.if-branch.false at c.in_ok-take_dump.ensures in
    refused_line c.args.self.now c.args.text.now (seen c.in-Some.line) (rw c.in-Some.is at c.in_ok-line.ensures)
    (rw same at (sym c.may_add.ensures ∙ c.if-not-may_add.true))
