use Rattle.std.proofs.Common.{◌≡◌, ℕ, ◌<◌, ◌≤◌, ◌+◌, length, get_or, arith, length-append, ap, ◌∙◌}
use Rattle.std.proofs.lemmas.Grind.{common_steps}
use Rattle.std.proofs.lemmas.List.{get_or_default}
use Rattle.mm_mission.specs.declared.parts.Pass.{Pass}
use Rattle.mm_overlap.specs.Given.{transmitter, IsGiven, no_pass}
use Rattle.mm_overlap.proofs.Passes.{given_next, below_next}
use Rattle.mm_overlap.proofs.given.numbers.Goals as goal

pub loop-pass-preserved : goal.loop-pass-preserved
loop-pass-preserved c =
    let numbers = c.loop-pass.numbers.items in
    let n = c.loop-pass.pass-index in
    let x = c.first_free-number.result in
    let same = c.deref.ensures.value in
    let most = rw same at c.first_free-number.ensures.below in
    record {
      as_many = rw c.in_ok-push.ensures.items (grind (arith, common_steps, c.loop-pass.invariant.as_many));
      below = rw c.in_ok-push.ensures.items (below_next c.args.passes.now numbers x n c.loop-pass.invariant.as_many
          c.loop-pass.invariant.below (omega (arith, most, c.loop-pass.invariant.as_many)));
      given = rw c.in_ok-push.ensures.items (given_next c.args.passes.now numbers x n _ c.loop-pass.invariant.as_many
          c.loop-pass.invariant.given (rw same at c.first_free-number.ensures.free)
          (rw same at c.first_free-number.ensures.first)
          (ap (λ (p : Pass). p.span.begin) (get_or_default c.args.passes.now n _ no_pass (omega arith))));
    }

pub returns-clause-given : goal.returns-clause-given
returns-clause-given c = λ i below. c.loop-pass.invariant.given i (omega arith)
