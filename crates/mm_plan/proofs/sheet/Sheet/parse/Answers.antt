use Rattle.std.proofs.Common.{◌≢◌, ℕ, arith, rules, ap, ◌∙◌}
use Rattle.mm_plan.specs.declared.fault.Fault.TheVariants.{NoMemory, PlanText}
use Rattle.mm_plan.specs.Reading.{sheet_of}
use Rattle.mm_plan.proofs.Runs.{sheet_of-whole}
use Rattle.mm_plan.proofs.Texts.{read_to_start, read_on, few_read, bad_line, bad_end, good_end, done_some, whole_at_end}
use Rattle.mm_plan.proofs.sheet.Sheet.parse.Goals as goal

-- a line that is refused is another fault than `NoMemory`
no_want : (line : ℕ) → PlanText line ≢ NoMemory
no_want line e = cc

pub loop-front-init : goal.loop-front-init
loop-front-init c = rw c.new-draft.ensures (read_to_start c.args.text.now)

pub loop-front-preserved : goal.loop-front-preserved
loop-front-preserved c =
    read_on c.in-Some.front.now c.in-Some.after.now c.loop-front.invariant (search rules)
    (rw c.if-not-taken.false at c.in-Ok.ensures)

pub overflow_add-line : goal.overflow_add-line
overflow_add-line c = omega (arith, few_read c.loop-front.invariant)

-- the line that cannot come next
pub returns-then-not-taken-clause-bad : goal.returns-then-not-taken-clause-bad
returns-then-not-taken-clause-bad c = λ _.
    bad_line c.loop-front.invariant c.in-Some.front.now c.in-Some.after.now (search rules)
    (rw c.if-not-taken.true at c.in-Ok.ensures)

pub returns-then-not-taken-clause-read : goal.returns-then-not-taken-clause-read
returns-then-not-taken-clause-read c = λ s is e.
    absurd ((returns-then-not-taken-clause-bad c (no_want c.loop-front.line)).no_sheet s is e)

-- the line on which the text ends
pub returns-then-not-ends-clause-bad : goal.returns-then-not-ends-clause-bad
returns-then-not-ends-clause-bad c = λ _.
    bad_end c.loop-front.invariant (search rules)
    (λ done empty. let ends = c.ends.ensures.1 (done, empty) in absurd (cc))

pub returns-then-not-ends-clause-read : goal.returns-then-not-ends-clause-read
returns-then-not-ends-clause-read c = λ s is e.
    absurd ((returns-then-not-ends-clause-bad c (no_want c.loop-front.line)).no_sheet s is e)

pub finish-requires-clause-plan : goal.finish-requires-clause-plan
finish-requires-clause-plan c =
    let ends = c.ends.ensures.0 (search rules) in
    (good_end c.loop-front.invariant ends.0 (search rules) ends.1).0.plan

pub finish-requires-clause-some : goal.finish-requires-clause-some
finish-requires-clause-some c =
    let ends = c.ends.ensures.0 (search rules) in
    done_some c.loop-front.invariant ends.0

pub returns-clause-found : goal.returns-clause-found
returns-clause-found c =
    let ends = c.ends.ensures.0 (search rules) in
    rw c.finish.ensures (good_end c.loop-front.invariant ends.0 (search rules) ends.1)

pub returns-clause-read : goal.returns-clause-read
returns-clause-read c = λ s is e.
    c.finish.ensures
    ∙ ap sheet_of (whole_at_end c.loop-front.invariant (search rules) s is e).0
    ∙ sheet_of-whole s
