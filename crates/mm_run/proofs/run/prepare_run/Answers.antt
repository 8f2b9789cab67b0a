use Rattle.std.proofs.Common.{◌≡◌, length, arith}
use Rattle.std.specs.Option.{option_copied}
use Rattle.mm_run.specs.Runs.{opened_with}
use Rattle.mm_run.proofs.NotTaken.{tells_untaken}
use Rattle.mm_run.proofs.Offered.{within_limits}
use Rattle.mm_run.proofs.Scripts.{refused_by_script}
use Rattle.mm_run.proofs.run.prepare_run.Goals as goal

pub invariant_of-result-clause-within : goal.invariant_of-result-clause-within
invariant_of-result-clause-within c =
    let start = c.in_ok-start.start in
    let sides = c.in_ok-opening.field-0 in
    let memory : c.offer_all.new.memory ≡ opened_with start.memory sides.opening.items = cc c.in_ok-offer_all.ensures in
    rw memory (within_limits (length start.problem.windows) start.memory sides.opening.items sides.sources.items
    (omega (arith, sides.opening.ok.0)) c.constants_are.ensures.packets c.in_ok-start.ensures.opened
    c.in_ok-opening.ensures.few)

pub returns-clause-prepared : goal.returns-clause-prepared
returns-clause-prepared c = record {
  memory = c.in_ok-start.start.memory;
  sheet = c.in_ok-sheet.sheet;
  start_says = record {
    problem_says = c.in_ok-start.ensures.found;
    plan_says = c.in_ok-sheet.ensures.found;
  };
  opening = c.in_ok-opening.field-0.opening.items;
  sides_say = c.in_ok-opening.ensures.found;
  opened = cc c.in_ok-offer_all.ensures;
  plan_is = c.plan_by-plan.ensures;
  counts = rw c.in_ok-printed.ensures.given c.in_ok-opening.ensures.counts;
  untaken_told = λ table.
      let start = c.in_ok-start.start in
      let sides = c.in_ok-opening.field-0 in
      let memory : c.offer_all.new.memory ≡ opened_with start.memory sides.opening.items =
      cc c.in_ok-offer_all.ensures in
      rw (memory, c.in_ok-printed.ensures.given) (tells_untaken _ _ start.problem start.memory
      c.in_ok-start.ensures.found sides.opening.items sides.sources.items sides.given.unstored
      c.in_ok-opening.ensures.untaken table);
  lost_before = rw c.in_ok-printed.ensures.given c.lost_in.ensures;
}

pub returns-in_err-opening-clause-refused : goal.returns-in_err-opening-clause-refused
returns-in_err-opening-clause-refused c =
    let start = c.in_ok-start.start in
    refused_by_script (option_copied c.args.plan) c.args.texts.setup.now c.args.texts.forecast.now
    c.args.texts.sources.now c.args.texts.links.now start.problem start.memory c.in_ok-sheet.sheet
    (record { problem_says = c.in_ok-start.ensures.found; plan_says = c.in_ok-sheet.ensures.found })
    c.in_err-opening.field-0.0 c.in_err-opening.ensures.refused c.from_residual-in_err-opening.result
    c.from_residual-in_err-opening.ensures.1
